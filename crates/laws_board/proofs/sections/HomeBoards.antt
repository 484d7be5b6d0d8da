-- A board of a run in which axes home, cut at two turns.
use Rattle.std.proofs.Common.{◌≡◌, ℕ, ◌+◌, ◌-◌, ◌≤◌, List, [], ◌∷◌, ◌++◌, length, take, drop, Option, refl, ap, sym, ◌∙◌, subst, arith, append_assoc, append-nil, length-append}
use Rattle.laws_board.proofs.Names.{append_cancel_left, take-append-drop, BoardClock, BoardDef, Pulse, board_tick, clock_of, Fits, State, base_of, Entry, only, Core, Step, run_world, new_world, AreTurns, queued_in, first_state, LinkState, Orders, run_append}
use Rattle.std.proofs.lemmas.List.{length-take-le, length-drop}
use Rattle.laws_board.specs.sections.Boards.{OnBoard, told_in}
use Rattle.laws_board.specs.sections.Courses.{IsSettled, AreSettled, AllHeed}
use Rattle.laws_board.specs.sections.Events.{AreOwn, AreTurnsOf}
use Rattle.laws_board.specs.sections.Homes.{RunSection, IsHomeRun, IsSplitIn, NextBehind, AreOverBy, IsHomeSpan, AreSettledOn, IsHomeBoard}
use Rattle.laws_board.specs.sections.Known.{Sent, sent_at, sent_in}
use Rattle.laws_board.specs.sections.Links.{AreTold, pulses_in, steps_of, steps_of_turn, turns_told}
use Rattle.laws_board.specs.sections.Runs.{Made}
use Rattle.laws_board.specs.sections.Timely.{AllTimely}
use Rattle.laws_board.proofs.sections.Boarding.{states_between}
use Rattle.laws_board.proofs.sections.HomeSpans.{section_is, between_is}
use Rattle.laws_board.proofs.sections.Linking.{next_within, own_first, told_made, turn_runs, turns_are, turns_owned}
use Rattle.laws_board.proofs.sections.Stepping.{heed_front}
use Rattle.laws_board.proofs.sections.Turning.{timely_front}

-- what is settled on a link is so over its steps
pub settled_head : (stops : ℕ → Option ℕ) (front : List Sent) (clock : BoardClock) (turn : ℕ) (sent : List Sent) (os : List Orders) (l m : LinkState) (t : AreTurns clock turn os l m) → AreSettledOn stops front clock turn sent os l m t
    → AreSettled stops front (board_tick clock) turn sent os (steps_of clock turn os l m t) l.core (turns_are clock turn os l m t).1
unfolding turns_are
settled_head stops front clock turn sent [] l m t s = s
settled_head stops front clock turn sent (o ∷ os) l m t s =
    let (mid, one, more) = t in
    let first = steps_of_turn clock turn o one.resent l in
    let later = steps_of clock (turn + 1) os mid m more in
    let is : mid.core ≡ run_world first l.core = ap (λ (x : LinkState). x.core) one.becomes ∙ turn_runs clock turn o one.resent l in
    let At : Core → Type 0 = λ h. AreSettled stops front (board_tick clock) (turn + 1) (sent ++ sent_at turn (queued_in o)) os later h (turns_are clock (turn + 1) os mid m more).1 in
    (s.0, s.1, subst At is (settled_head stops front clock (turn + 1) (sent ++ sent_at turn (queued_in o)) os mid m more s.2))

-- so it is by other ticks that are the same by then
pub settled_owned : (b : BoardDef) (stops : ℕ → Option ℕ) (front : List Sent) (own : ℕ → ℕ) (last turn : ℕ) (sent : List Sent) (os : List Orders) (steps : List Step) (h : Core) (o : AreOwn b last own) (within : turn + length os ≤ last)
    (t : AreTurnsOf (board_tick (clock_of b)) turn os steps) → AreSettled stops front (board_tick (clock_of b)) turn sent os steps h t → AreSettled stops front own turn sent os steps h (turns_owned b own last turn os steps o within t)
unfolding turns_owned
settled_owned b stops front own last turn sent [] steps h o within t s = s
settled_owned b stops front own last turn sent (x ∷ os) steps h o within t s =
    (s.0, s.1, settled_owned b stops front own last (turn + 1) (sent ++ sent_at turn (queued_in x)) os t.1 (run_world t.0 h) o (next_within turn last x os within) t.4 s.2)

abbrev pub steps_told : (clock : BoardClock) (turn : ℕ) (os : List Orders) (states : List State) (l m : LinkState) → AreTold clock turn os states l m → List Step
steps_told clock turn os states l m t = steps_of clock turn os l m (turns_told clock turn os states l m t)

abbrev pub SettledTold : (stops : ℕ → Option ℕ) (front : List Sent) (clock : BoardClock) (turn : ℕ) (sent : List Sent) (os : List Orders) (states : List State) (l m : LinkState) → AreTold clock turn os states l m → Type 0
SettledTold stops front clock turn sent os states l m t = AreSettledOn stops front clock turn sent os l m (turns_told clock turn os states l m t)

-- turns that are told, cut behind some of them, with what is settled
pub record Split (stops : ℕ → Option ℕ) (front : List Sent) (clock : BoardClock) (turn next : ℕ) (sent : List Sent) (xs ys : List Orders) (states : List State) (l m : LinkState) (t : AreTold clock turn (xs ++ ys) states l m) : Type 0 where
  pub first : List State
  pub second : List State
  pub mid : LinkState
  pub are : states ≡ first ++ second
  pub long : length first ≡ length xs
  pub one : AreTold clock turn xs first l mid
  pub two : AreTold clock next ys second mid m
  pub steps : steps_told clock turn (xs ++ ys) states l m t ≡ steps_told clock turn xs first l mid one ++ steps_told clock next ys second mid m two
  pub settled_one : SettledTold stops front clock turn sent xs first l mid one
  pub settled_two : SettledTold stops front clock next (sent ++ sent_in turn xs) ys second mid m two

pub settled_now : (stops : ℕ → Option ℕ) (front : List Sent) (clock : BoardClock) (turn : ℕ) (sent : List Sent) (os : List Orders) (states : List State) (l m : LinkState) (t : AreTold clock turn os states l m) → SettledTold stops front clock turn sent os states l m t
    → IsSettled stops front turn sent l.core
settled_now stops front clock turn sent [] states l m t s = s
settled_now stops front clock turn sent (o ∷ os) [] l m t s = absurd t
settled_now stops front clock turn sent (o ∷ os) (x ∷ states) l m t s = s.0

pub split_at : (stops : ℕ → Option ℕ) (front : List Sent) (clock : BoardClock) (turn next : ℕ) (sent : List Sent) (xs ys : List Orders) (states : List State) (l m : LinkState) (t : AreTold clock turn (xs ++ ys) states l m) → turn + length xs ≡ next
    → SettledTold stops front clock turn sent (xs ++ ys) states l m t → Split stops front clock turn next sent xs ys states l m t
split_at stops front clock turn next sent [] ys states l m t e s =
    let At : ℕ → Type 0 = λ k. (b : AreTold clock k ys states l m) × (steps_told clock turn ys states l m t ≡ steps_told clock k ys states l m b) × SettledTold stops front clock k (sent ++ []) ys states l m b in
    let here : turn ≡ next = omega (arith, e) in
    let Sent_is : List Sent → Type 0 = λ x. SettledTold stops front clock turn x ys states l m t in
    let same = subst At here (t, refl, subst Sent_is (sym (append-nil sent)) s) in
    record {
      first = [];
      second = states;
      mid = l;
      are = refl;
      long = refl;
      one = (refl, refl);
      two = same.0;
      steps = same.1;
      settled_one = settled_now stops front clock turn sent ys states l m t s;
      settled_two = same.2;
    }
split_at stops front clock turn next sent (x ∷ xs) ys [] l m t e s = absurd t
split_at stops front clock turn next sent (x ∷ xs) ys (y ∷ states) l m t e s =
    let (mid, is, told, more) = t in
    let rest = split_at stops front clock (turn + 1) next (sent ++ sent_at turn (queued_in x)) xs ys states mid m more (omega (arith, e)) s.2 in
    let head = steps_of_turn clock turn x is.resent l in
    let Sent_is : List Sent → Type 0 = λ z. SettledTold stops front clock next z ys rest.second rest.mid m rest.two in
    record {
      first = y ∷ rest.first;
      second = rest.second;
      mid = rest.mid;
      are = ap (λ z. y ∷ z) rest.are;
      long = omega (arith, rest.long);
      one = (mid, is, told, rest.one);
      two = rest.two;
      steps = ap (λ z. head ++ z) rest.steps
          ∙ sym (append_assoc head (steps_told clock (turn + 1) xs rest.first mid rest.mid rest.one) (steps_told clock next ys rest.second rest.mid m rest.two));
      settled_one = (s.0, s.1, rest.settled_one);
      settled_two = subst Sent_is (append_assoc sent (sent_at turn (queued_in x)) (sent_in (turn + 1) xs)) rest.settled_two;
    }

-- a board's turns between two, with the pulses that its states tell
pub record Cut (x : OnBoard) (own : ℕ → ℕ) (ready from to : ℕ) (stops : ℕ → Option ℕ) (ss : List RunSection) : Type 0 where
  pub before : List Orders
  pub during : List Orders
  pub behind : List Orders
  pub first : List Step
  pub second : List Step
  pub span : IsHomeSpan x.board x.pins own x.clocks ready stops ss before during behind first second
  pub from_is : length before ≡ from
  pub to_is : length before + length during ≡ to
  pub made : Made (run_world first (new_world x.board x.pins)) (run_world (first ++ second) (new_world x.board x.pins)) (told_in from to x)

cut_here : (x : OnBoard) (place : ℕ) (entries : List Entry) (ready from to : ℕ) (ss : List RunSection) (turns : ℕ) (k : IsHomeBoard place entries ready turns ss x) (before during behind : List Orders)
    → length before ≡ from → length before + length during ≡ to → length (before ++ (during ++ behind)) ≡ turns → IsHomeRun k.own x.clocks x.board.freq x.board.slots ready k.stops ss (before ++ (during ++ behind))
    → (t : AreTold (clock_of x.board) 0 (before ++ (during ++ behind)) x.states (first_state x.board x.pins place entries) k.end)
    → AllTimely (new_world x.board x.pins) (steps_told (clock_of x.board) 0 (before ++ (during ++ behind)) x.states (first_state x.board x.pins place entries) k.end t)
    → (split : IsSplitIn k.own k.stops x.board.slots ss (before ++ (during ++ behind)))
    → SettledTold k.stops split.front (clock_of x.board) 0 [] (before ++ (during ++ behind)) x.states (first_state x.board x.pins place entries) k.end t
    → AllHeed split.front split.tail (new_world x.board x.pins) (steps_told (clock_of x.board) 0 (before ++ (during ++ behind)) x.states (first_state x.board x.pins place entries) k.end t)
    → Cut x k.own ready from to k.stops ss
cut_here x place entries ready from to ss turns k before during behind from_is to_is all_is r t timely split settled heed =
    let clock = clock_of x.board in
    let own = k.own in
    let all = length-append before (during ++ behind) in
    let both = length-append during behind in
    let l = first_state x.board x.pins place entries in
    let h = new_world x.board x.pins in
    let a = length before in
    let d = a + length during in
    let s = split_at k.stops split.front clock 0 a [] before (during ++ behind) x.states l k.end t (omega arith) settled in
    let u = split_at k.stops split.front clock a d (sent_in 0 before) during behind s.second s.mid k.end s.two refl s.settled_two in
    let first = steps_told clock 0 before s.first l s.mid s.one in
    let second = steps_told clock a during u.first s.mid u.mid u.one in
    let third = steps_told clock d behind u.second u.mid k.end u.two in
    let whole = s.steps ∙ ap (λ y. first ++ y) u.steps ∙ sym (append_assoc first second third) in
    let states : x.states ≡ s.first ++ (u.first ++ u.second) = s.are ∙ ap (λ y. s.first ++ y) u.are in
    let t1 = turns_are clock 0 before l s.mid (turns_told clock 0 before s.first l s.mid s.one) in
    let t2 = turns_are clock a during s.mid u.mid (turns_told clock a during u.first s.mid u.mid u.one) in
    let early : s.mid.core ≡ run_world first h = t1.0 in
    let late : u.mid.core ≡ run_world (first ++ second) h = t2.0 ∙ ap (run_world second) t1.0 ∙ sym (run_append first second h) in
    let Timely : List Step → Type 0 = λ y. AllTimely h y in
    let Heed : List Step → Type 0 = λ y. AllHeed split.front split.tail h y in
    let one_within : 0 + a ≤ turns = omega (arith, all, all_is) in
    let two_within : a + length during ≤ turns = omega (arith, all, both, all_is) in
    let two_turns = turns_owned x.board own turns a during second k.own_is two_within t2.1 in
    let At : Core → Type 0 = λ y. AreSettled k.stops split.front own a (sent_in 0 before) during second y two_turns in
    let within : told_in from to x ≡ pulses_in u.first = ap pulses_in (states_between s.first u.first u.second x.states from to states (s.long ∙ from_is) (omega (arith, s.long, u.long, to_is))) in
    record {
      before = before;
      during = during;
      behind = behind;
      first = first;
      second = second;
      span = record {
        ticks = k.own_is.ticks;
        begin = own_first x.board turns own k.own_is;
        run_is = r;
        split = split;
        first_turns = turns_owned x.board own turns 0 before first k.own_is one_within t1.1;
        second_turns = two_turns;
        timely = timely_front (first ++ second) third h (subst Timely whole timely);
        first_settled = settled_owned x.board k.stops split.front own turns 0 [] before first h k.own_is one_within t1.1
            (settled_head k.stops split.front clock 0 [] before l s.mid (turns_told clock 0 before s.first l s.mid s.one) s.settled_one);
        second_settled = subst At early (settled_owned x.board k.stops split.front own turns a (sent_in 0 before) during second s.mid.core k.own_is two_within t2.1
            (settled_head k.stops split.front clock a (sent_in 0 before) during s.mid u.mid (turns_told clock a during u.first s.mid u.mid u.one) u.settled_one));
        heed = heed_front split.front split.tail (first ++ second) third h (subst Heed whole heed);
      };
      from_is = from_is;
      to_is = to_is;
      made = ap (λ (c : Core). c.made) (sym late) ∙ sym (told_made clock a during u.first s.mid u.mid u.one) ∙ ap (λ (c : Core). c.made ++ pulses_in u.first) early
          ∙ ap (λ y. (run_world first h).made ++ y) (sym within);
    }

pub cut_at : (x : OnBoard) (place : ℕ) (entries : List Entry) (ready from to turns : ℕ) (ss : List RunSection) (k : IsHomeBoard place entries ready turns ss x) → from ≤ to → to ≤ turns → Cut x k.own ready from to k.stops ss
cut_at x place entries ready from to turns ss k order within =
    let clock = clock_of x.board in
    let l = first_state x.board x.pins place entries in
    let before = take from x.orders in
    let rest = drop from x.orders in
    let during = take (to - from) rest in
    let behind = drop (to - from) rest in
    let cut : x.orders ≡ before ++ (during ++ behind) = sym (take-append-drop from x.orders) ∙ ap (λ y. before ++ y) (sym (take-append-drop (to - from) rest)) in
    let one : length before ≡ from = length-take-le from x.orders (omega (arith, order, within, k.count)) in
    let two : length during ≡ to - from = length-take-le (to - from) rest (omega (arith, order, within, k.count, length-drop from x.orders)) in
    let At : List Orders → Type 0 = λ o. length o ≡ turns → IsHomeRun k.own x.clocks x.board.freq x.board.slots ready k.stops ss o → (t : AreTold clock 0 o x.states l k.end)
    → AllTimely (new_world x.board x.pins) (steps_told clock 0 o x.states l k.end t)
    → (split : IsSplitIn k.own k.stops x.board.slots ss o) → SettledTold k.stops split.front clock 0 [] o x.states l k.end t → AllHeed split.front split.tail (new_world x.board x.pins) (steps_told clock 0 o x.states l k.end t) → Cut x k.own ready from to k.stops ss in
    subst At (sym cut) (cut_here x place entries ready from to ss turns k before during behind one (omega (arith, one, two, order))) k.count k.run_is k.told k.timely k.split k.settled k.heed

same_made : (a b c : List Pulse) (h : List Pulse) → h ≡ a ++ b → h ≡ a ++ c → b ≡ c
same_made a b c h e f = append_cancel_left a b c (sym e ∙ f)

pub told_section : (place : ℕ) (entries : List Entry) (ready turns from to : ℕ) (x : OnBoard) (past : List RunSection) (s : RunSection) (later : List RunSection) → IsHomeBoard place entries ready turns (past ++ s ∷ later) x
    → from + 1 ≡ s.section.start → from ≤ to → to ≤ turns → NextBehind to later → (oid : ℕ) → Fits x.board.freq (base_of x.clocks s.section) (only oid (told_in from to x)) (s.section.plan oid)
told_section place entries ready turns from to x past s later k begin order within next oid =
    let c = cut_at x place entries ready from to turns (past ++ s ∷ later) k order within in
    let Next : ℕ → Type 0 = λ n. NextBehind n later in
    let (pulses, made, fits) = section_is x.board x.pins k.own x.clocks ready k.stops past s later c.before c.during c.behind c.first c.second c.span (omega (arith, c.from_is, begin)) (subst Next (sym c.to_is) next) in
    let h1 = run_world c.first (new_world x.board x.pins) in
    let same = same_made h1.made pulses (told_in from to x) (run_world (c.first ++ c.second) (new_world x.board x.pins)).made made c.made in
    let At : List Pulse → Type 0 = λ y. Fits x.board.freq (base_of x.clocks s.section) (only oid y) (s.section.plan oid) in
    subst At same (fits oid)

pub told_between : (place : ℕ) (entries : List Entry) (ready turns from to : ℕ) (x : OnBoard) (past later : List RunSection) → IsHomeBoard place entries ready turns (past ++ later) x
    → AreOverBy from past → from ≤ to → to ≤ turns → NextBehind to later → told_in from to x ≡ []
told_between place entries ready turns from to x past later k over order within next =
    let c = cut_at x place entries ready from to turns (past ++ later) k order within in
    let Next : ℕ → Type 0 = λ n. NextBehind n later in
    let Over : ℕ → Type 0 = λ n. AreOverBy n past in
    let same = between_is x.board x.pins k.own x.clocks ready k.stops past later c.before c.during c.behind c.first c.second c.span (subst Over (sym c.from_is) over) (subst Next (sym c.to_is) next) in
    let h1 = run_world c.first (new_world x.board x.pins) in
    sym (same_made h1.made [] (told_in from to x) (run_world (c.first ++ c.second) (new_world x.board x.pins)).made (same ∙ sym (append-nil h1.made)) c.made)
