-- The turns of a board in a run in which axes home, cut at two turns, with its link there.
use Rattle.std.proofs.Common.{◌≡◌, ℕ, ◌+◌, ◌≤◌, List, [], ◌∷◌, ◌++◌, length, Option, refl, ap, sym, ◌∙◌, subst, arith, append_assoc, length-append}
use Rattle.laws_board.proofs.Names.{BoardClock, clock_of, State, Entry, Core, Step, run_world, new_world, AreTurns, first_state, LinkState, Orders, run_append}
use Rattle.laws_board.specs.sections.Boards.{OnBoard}
use Rattle.laws_board.specs.sections.Courses.{AllHeed, AreSettled}
use Rattle.laws_board.specs.sections.Homes.{RunSection, IsHomeRun, IsHomeSpan, IsSplitIn, IsHomeBoard, lost_at}
use Rattle.laws_board.specs.sections.Known.{sent_in}
use Rattle.laws_board.specs.sections.Links.{AreTold, pulses_in, turns_told}
use Rattle.laws_board.specs.sections.Timely.{AllTimely}
use Rattle.laws_board.proofs.sections.Linking.{own_first, told_made, turns_are, turns_owned}
use Rattle.laws_board.proofs.sections.Turning.{timely_front}
use Rattle.laws_board.proofs.sections.HomeBoards.{SettledTold, settled_head, settled_owned, split_at, steps_told}
use Rattle.laws_board.proofs.sections.Stepping.{heed_front}

-- a board's turns before one, and on to another, with its link there
pub record Cut (x : OnBoard) (own : ℕ → ℕ) (place : ℕ) (entries : List Entry) (ready until : ℕ) (stops : ℕ → Option ℕ) (ss : List RunSection) (before during behind : List Orders) : Type 0 where
  pub first : List Step
  pub second : List Step
  pub span : IsHomeSpan x.board x.pins own x.clocks ready stops ss before during behind first second
  pub until_is : lost_at (length (before ++ (during ++ behind))) span.split.tail ≡ until
  pub mid : LinkState
  pub mid_turns : AreTurns (clock_of x.board) 0 before (first_state x.board x.pins place entries) mid
  pub mid_is : mid.core ≡ run_world first (new_world x.board x.pins)
  pub last : LinkState
  pub last_is : last.core ≡ run_world (first ++ second) (new_world x.board x.pins)
  pub states : List State
  pub others : List State
  pub states_are : x.states ≡ states ++ others
  pub long : length states ≡ length before + length during
  pub told : AreTold (clock_of x.board) 0 (before ++ during) states (first_state x.board x.pins place entries) last
  pub made : (run_world (first ++ second) (new_world x.board x.pins)).made ≡ pulses_in states

told_both : (clock : BoardClock) (turn next : ℕ) (xs ys : List Orders) (ss ts : List State) (l m n : LinkState) → turn + length xs ≡ next → AreTold clock turn xs ss l m → AreTold clock next ys ts m n → AreTold clock turn (xs ++ ys) (ss ++ ts) l n
told_both clock turn next [] ys [] ts l m n e a b =
    let here : next ≡ turn = omega (arith, e) in
    subst (λ (k : ℕ). AreTold clock k ys ts l n) here (subst (λ (x : LinkState). AreTold clock next ys ts x n) a.1 b)
told_both clock turn next [] ys (s ∷ ss) ts l m n e a b = absurd (clash s ss a.0)
  where
    clash : (s : State) (ss : List State) → s ∷ ss ≡ [] → ⊥
    clash s ss e = cc
told_both clock turn next (x ∷ xs) ys [] ts l m n e a b = absurd a
told_both clock turn next (x ∷ xs) ys (s ∷ ss) ts l m n e a b = (a.0, a.1, a.2, told_both clock (turn + 1) next xs ys ss ts a.0 m n (omega (arith, e)) a.3 b)

cut_here : (x : OnBoard) (place : ℕ) (entries : List Entry) (ready : ℕ) (ss : List RunSection) (turns : ℕ) (k : IsHomeBoard place entries ready turns ss x) (before during behind : List Orders)
    → length (before ++ (during ++ behind)) ≡ turns → IsHomeRun k.own x.clocks x.board.freq x.board.slots ready k.stops ss (before ++ (during ++ behind))
    → (t : AreTold (clock_of x.board) 0 (before ++ (during ++ behind)) x.states (first_state x.board x.pins place entries) k.end)
    → AllTimely (new_world x.board x.pins) (steps_told (clock_of x.board) 0 (before ++ (during ++ behind)) x.states (first_state x.board x.pins place entries) k.end t)
    → (split : IsSplitIn k.own k.stops x.board.slots ss (before ++ (during ++ behind)))
    → SettledTold k.stops split.front (clock_of x.board) 0 [] (before ++ (during ++ behind)) x.states (first_state x.board x.pins place entries) k.end t
    → AllHeed split.front split.tail (new_world x.board x.pins) (steps_told (clock_of x.board) 0 (before ++ (during ++ behind)) x.states (first_state x.board x.pins place entries) k.end t)
    → (until : ℕ) → lost_at (length (before ++ (during ++ behind))) split.tail ≡ until → Cut x k.own place entries ready until k.stops ss before during behind
cut_here x place entries ready ss turns k before during behind all_is r t timely split settled heed until until_is =
    let clock = clock_of x.board in
    let own = k.own in
    let all = length-append before (during ++ behind) in
    let rest = length-append during behind in
    let l = first_state x.board x.pins place entries in
    let h = new_world x.board x.pins in
    let a = length before in
    let d = a + length during in
    let s = split_at k.stops split.front clock 0 a [] before (during ++ behind) x.states l k.end t (omega arith) settled in
    let u = split_at k.stops split.front clock a d (sent_in 0 before) during behind s.second s.mid k.end s.two refl s.settled_two in
    let first = steps_told clock 0 before s.first l s.mid s.one in
    let second = steps_told clock a during u.first s.mid u.mid u.one in
    let third = steps_told clock d behind u.second u.mid k.end u.two in
    let whole = s.steps ∙ ap (λ y. first ++ y) u.steps ∙ sym (append_assoc first second third) in
    let states : x.states ≡ s.first ++ (u.first ++ u.second) = s.are ∙ ap (λ y. s.first ++ y) u.are in
    let t1 = turns_are clock 0 before l s.mid (turns_told clock 0 before s.first l s.mid s.one) in
    let t2 = turns_are clock a during s.mid u.mid (turns_told clock a during u.first s.mid u.mid u.one) in
    let early : s.mid.core ≡ run_world first h = t1.0 in
    let late : u.mid.core ≡ run_world (first ++ second) h = t2.0 ∙ ap (run_world second) t1.0 ∙ sym (run_append first second h) in
    let Timely : List Step → Type 0 = λ y. AllTimely h y in
    let Heed : List Step → Type 0 = λ y. AllHeed split.front split.tail h y in
    let one_within : 0 + a ≤ turns = omega (arith, all, all_is) in
    let two_within : a + length during ≤ turns = omega (arith, all, rest, all_is) in
    let two_turns = turns_owned x.board own turns a during second k.own_is two_within t2.1 in
    let At : Core → Type 0 = λ y. AreSettled k.stops split.front own a (sent_in 0 before) during second y two_turns in
    let both = told_both clock 0 a before during s.first u.first l s.mid u.mid (omega arith) s.one u.one in
    let one = s.long in
    let two = u.long in
    let three = length-append s.first u.first in
    record {
      first = first;
      second = second;
      span = record {
        ticks = k.own_is.ticks;
        begin = own_first x.board turns own k.own_is;
        run_is = r;
        split = split;
        first_turns = turns_owned x.board own turns 0 before first k.own_is one_within t1.1;
        second_turns = two_turns;
        timely = timely_front (first ++ second) third h (subst Timely whole timely);
        first_settled = settled_owned x.board k.stops split.front own turns 0 [] before first h k.own_is one_within t1.1
            (settled_head k.stops split.front clock 0 [] before l s.mid (turns_told clock 0 before s.first l s.mid s.one) s.settled_one);
        second_settled = subst At early (settled_owned x.board k.stops split.front own turns a (sent_in 0 before) during second s.mid.core k.own_is two_within t2.1
            (settled_head k.stops split.front clock a (sent_in 0 before) during s.mid u.mid (turns_told clock a during u.first s.mid u.mid u.one) u.settled_one));
        heed = heed_front split.front split.tail (first ++ second) third h (subst Heed whole heed);
      };
      until_is = until_is;
      mid = s.mid;
      mid_turns = turns_told clock 0 before s.first l s.mid s.one;
      mid_is = early;
      last = u.mid;
      last_is = late;
      states = s.first ++ u.first;
      others = u.second;
      states_are = states ∙ sym (append_assoc s.first u.first u.second);
      long = omega (arith, one, two, three);
      told = both;
      made = ap (λ (c : Core). c.made) (sym late) ∙ sym (told_made clock 0 (before ++ during) (s.first ++ u.first) l u.mid both);
    }

pub cut_board : (x : OnBoard) (place : ℕ) (entries : List Entry) (ready turns : ℕ) (ss : List RunSection) (k : IsHomeBoard place entries ready turns ss x) (before during behind : List Orders) → x.orders ≡ before ++ (during ++ behind)
    → Cut x k.own place entries ready (lost_at (length x.orders) k.split.tail) k.stops ss before during behind
cut_board x place entries ready turns ss k before during behind cut =
    let clock = clock_of x.board in
    let l = first_state x.board x.pins place entries in
    let At : List Orders → Type 0 = λ o. length o ≡ turns → IsHomeRun k.own x.clocks x.board.freq x.board.slots ready k.stops ss o → (t : AreTold clock 0 o x.states l k.end)
    → AllTimely (new_world x.board x.pins) (steps_told clock 0 o x.states l k.end t) → (split : IsSplitIn k.own k.stops x.board.slots ss o) → SettledTold k.stops split.front clock 0 [] o x.states l k.end t
    → AllHeed split.front split.tail (new_world x.board x.pins) (steps_told clock 0 o x.states l k.end t) → (until : ℕ) → lost_at (length o) split.tail ≡ until → Cut x k.own place entries ready until k.stops ss before during behind in
    subst At (sym cut) (cut_here x place entries ready ss turns k before during behind) k.count k.run_is k.told k.timely k.split k.settled k.heed (lost_at (length x.orders) k.split.tail) refl
