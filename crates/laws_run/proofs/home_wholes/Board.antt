-- What a board tells of a section of moves in a run in which axes home: all its steps.
use Rattle.std.proofs.Common.{◌≡◌, ◌≢◌, ℕ, true, false, ◌+◌, ◌-◌, ◌*◌, ◌<◌, ◌≤◌, ◌⊎◌, Bool, List, [], ◌∷◌, ◌++◌, length, take, drop, Some, refl, ap, sym, ◌∙◌, subst, arith, inl, inr, append_assoc, length-append, rules}
use Rattle.laws_board.proofs.Names.{leb_tells, flat_map-append, append_cancel_left, take-append-drop, All-head, Running, Shut, Pulse, clock_of, turn_ns, lines_tick, ShutNews, State, Entry, only, Core, run_world, new_world, AreBefore, base_of, section_steps, AreTurns, first_state, LinkState, Orders}
use Rattle.std.proofs.lemmas.List.{length-drop, length-take-le, take-append-le, take_all}
use Rattle.board_sim.specs.Board.{timer_too_close}
use Rattle.board_sim.proofs.Steps.{only-append}
use Rattle.link_core.specs.Core.{sent}
use Rattle.laws_board.specs.sections.Boards.{OnBoard, told_in}
use Rattle.laws_board.specs.sections.Courses.{courses}
use Rattle.laws_board.specs.sections.Ends.{MayBe}
use Rattle.laws_board.specs.sections.Known.{Sent}
use Rattle.laws_board.specs.sections.Stops.{NeverStop}
use Rattle.laws_board.specs.sections.Homes.{AreReleasedIn, IsHomeBoard, IsMovesIn, IsSectionBy, NextBehind, RunSection, lost_at}
use Rattle.laws_board.specs.sections.Links.{AreTold, pulses_in}
use Rattle.laws_board.proofs.sections.Boarding.{last_told, runs_on, states_between, told_count}
use Rattle.laws_board.proofs.sections.Clocks.{ticks_rise}
use Rattle.laws_board.proofs.sections.Entering.{AreEarly}
use Rattle.laws_board.proofs.sections.Finding.{idle_took}
use Rattle.laws_board.proofs.sections.HomeBoards.{cut_at, told_section}
use Rattle.laws_board.proofs.sections.HomeSpans.{halves}
use Rattle.laws_board.proofs.sections.Passes.{AreBetween}
use Rattle.laws_board.proofs.sections.Spans.{AreLate, all_split, between_early, between_late, early_behind, late_fits, section_early}
use Rattle.laws_board.proofs.sections.Wholes.{first_of_own}
use Rattle.laws_run.specs.home_wholes.Still.{BringStill, IsStillAt, IsStillIn}
use Rattle.laws_run.proofs.home_wholes.Counts.{fits_many, middle_many}
use Rattle.laws_run.proofs.home_wholes.Cutting.{cut_board}
use Rattle.laws_run.proofs.home_wholes.Front.{AreLostAt, AreLostBy, row_later, where_left}
use Rattle.laws_run.proofs.home_wholes.Phases.{Holds}
use Rattle.laws_run.proofs.home_wholes.Section.{lost_early, lost_taken, made_or_early, made_where_taken, never_last, reason_last}
use Rattle.laws_board.proofs.sections.Passing.{last_runs, tells}
use Rattle.laws_run.proofs.home_headline.Stop.{runs_so}

-- the pulses that a board tells between two turns have ticks of these turns
between_told : (place : ℕ) (entries : List Entry) (ready turns from to : ℕ) (x : OnBoard) (ss : List RunSection) (k : IsHomeBoard place entries ready turns ss x) → from ≤ to → to ≤ turns → (oid : ℕ)
    → AreBetween (k.own from) (k.own to) (only oid (told_in from to x))
between_told place entries ready turns from to x ss k order within oid =
    let own = k.own in
    let c = cut_at x place entries ready from to turns ss k order within in
    let q = halves x.board x.pins own x.clocks ready k.stops ss c.before c.during c.behind c.first c.second c.span in
    let h1 = run_world c.first (new_world x.board x.pins) in
    let same : q.new.0 ≡ told_in from to x = append_cancel_left h1.made q.new.0 (told_in from to x) (sym q.new.1 ∙ c.made) in
    let Low : ℕ → Type 0 = λ n. AreBetween (own n) (own to) (only oid (told_in from to x)) in
    let High : ℕ → Type 0 = λ n. AreBetween (own (length c.before)) (own n) (only oid (told_in from to x)) in
    let At : List Pulse → Type 0 = λ y. AreBetween (own (length c.before)) (own (length c.before + length c.during)) (only oid y) in
    subst Low c.from_is (subst High c.to_is (subst At same (q.new.2 oid)))

-- told up to a turn, in three parts
told_split : (a b c : ℕ) (states front others : List State) → a ≤ b → b ≤ c → states ≡ front ++ others → length front ≡ c
    → pulses_in front ≡ pulses_in (take (a - 0) (drop 0 states)) ++ (pulses_in (take (b - a) (drop a states)) ++ pulses_in (take (c - b) (drop b states)))
told_split a b c states front others one two are long =
    let xs = take a front in
    let rest = drop a front in
    let ys = take (b - a) rest in
    let zs = drop (b - a) rest in
    let f : State → List Pulse = λ s. s.pulses in
    let xl : length xs ≡ a = length-take-le a front (omega (arith, one, two, long)) in
    let rl = length-drop a front in
    let yl : length ys ≡ b - a = length-take-le (b - a) rest (omega (arith, rl, one, two, long)) in
    let zl = length-drop (b - a) rest in
    let parts : front ≡ xs ++ (ys ++ zs) = sym (take-append-drop a front) ∙ ap (λ t. xs ++ t) (sym (take-append-drop (b - a) rest)) in
    let whole : states ≡ xs ++ (ys ++ (zs ++ others)) = are ∙ ap (λ t. t ++ others) parts ∙ append_assoc xs (ys ++ zs) others ∙ ap (λ t. xs ++ t) (append_assoc ys zs others) in
    let first : take (a - 0) (drop 0 states) ≡ xs = states_between [] xs (ys ++ (zs ++ others)) states 0 a whole refl (omega (arith, xl)) in
    let second : take (b - a) (drop a states) ≡ ys = states_between xs ys (zs ++ others) states a b whole xl (omega (arith, xl, yl, one)) in
    let flat : states ≡ (xs ++ ys) ++ (zs ++ others) = whole ∙ sym (append_assoc xs ys (zs ++ others)) in
    let both = length-append xs ys in
    let third : take (c - b) (drop b states) ≡ zs = states_between (xs ++ ys) zs others states b c flat (omega (arith, both, xl, yl, one)) (omega (arith, both, xl, yl, zl, rl, one, two, long)) in
    ap pulses_in parts ∙ flat_map-append f xs (ys ++ zs) ∙ ap (λ t. pulses_in xs ++ t) (flat_map-append f ys zs)
    ∙ ap (λ t. pulses_in t ++ (pulses_in ys ++ pulses_in zs)) (sym first) ∙ ap (λ t. pulses_in (take (a - 0) (drop 0 states)) ++ (pulses_in t ++ pulses_in zs)) (sym second)
    ∙ ap (λ t. pulses_in (take (a - 0) (drop 0 states)) ++ (pulses_in (take (b - a) (drop a states)) ++ pulses_in t)) (sym third)

-- states that begin some others
front_is : (xs ys us vs : List State) → xs ++ ys ≡ us ++ vs → length xs ≡ length us → xs ≡ us
front_is [] ys [] vs e l = refl
front_is [] ys (u ∷ us) vs e l = absurd (omega (arith, l))
front_is (y ∷ xs) ys [] vs e l = absurd (omega (arith, l))
front_is (y ∷ xs) ys (u ∷ us) vs e l =
    let one : y ≡ u = cc in
    let two : xs ++ ys ≡ us ++ vs = cc in
    ap (λ t. y ∷ t) (front_is xs ys us vs two (omega (arith, l))) ∙ ap (λ t. t ∷ us) one

-- no pulse of late turns is early
none_early : (low from to : ℕ) (ps qs all : List Pulse) → ps ≢ [] → all ≡ qs ++ (ps ++ []) → ((o : ℕ) → AreEarly low (only o all)) → ((o : ℕ) → AreBetween from to (only o (ps ++ []))) → low ≤ from → ⊥
none_early low from to [] qs all some split early late order = some refl
none_early low from to (p ∷ ps) qs all some split early late order =
    let o = p.stepper in
    let Early : List Pulse → Type 0 = λ t. AreEarly low t in
    let Late : List Pulse → Type 0 = λ t. AreBetween from to t in
    let own = first_of_own p (ps ++ []) in
    let cut : only o all ≡ only o qs ++ only o ((p ∷ ps) ++ []) = ap (only o) split ∙ only-append o qs ((p ∷ ps) ++ []) in
    let one = subst Early own (early_behind low (only o qs) (only o ((p ∷ ps) ++ [])) (subst Early cut (early o))) in
    let two = subst Late own (late o) in
    omega (arith, one.0, two.0, order)

-- where the first triple that comes too late was queued
lost_up : (j k : ℕ) (tail : List Sent) → j ≤ k → AreLostBy j tail → AreLostBy k tail
lost_up j k [] h l = l
lost_up j k (t ∷ tail) h l = omega (arith, l, h)

lost_here : (j k : ℕ) (tail : List Sent) → j < k → AreLostAt j tail → AreLostBy k tail
lost_here j k [] h l = l
lost_here j k (t ∷ tail) h l = omega (arith, l, h)

-- a section of moves on a board
module _ (place : ℕ) (entries : List Entry) (ready turns from to : ℕ) (x : OnBoard) (past : List RunSection) (s : RunSection) (later : List RunSection) (k : IsHomeBoard place entries ready turns (past ++ s ∷ later) x) (moves : s.homes ≡ false)
    (begins : from + 1 ≡ s.section.start) (order : from ≤ to) (next : NextBehind to later) (over : s.section.end + 5 ≤ to) where
  abbrev Own : ℕ → ℕ
  Own = k.own

  is_moves : IsMovesIn x.clocks x.board.freq x.board.slots k.run_is.tracked.until k.stops s.section
  is_moves =
      let Q : RunSection → Type 0 = λ (y : RunSection). IsSectionBy y.homes x.clocks x.board.freq x.board.slots k.run_is.tracked.until k.stops y.section in
      let here = All-head Q s later (all_split Q past (s ∷ later) k.run_is.sections).1 in
      subst (λ (h : Bool). IsSectionBy h x.clocks x.board.freq x.board.slots k.run_is.tracked.until k.stops s.section) moves here

  -- where the steps are among what was told up to a turn, those of the section's turns are as many as planned
  many : (n : ℕ) → to ≤ n → n ≤ turns → (front others : List State) → x.states ≡ front ++ others → length front ≡ n → (oid : ℕ) → Holds (section_steps oid s.section) (only oid (pulses_in front))
      → length (only oid (told_in from to x)) ≡ length (s.section.plan oid)
  many n low within front others are long oid (early, more, holds) =
      let ss = past ++ s ∷ later in
      let i = is_moves in
      let row = row_later ready past s later k.run_is.row in
      let ticks = k.own_is.ticks in
      let a = told_in 0 from x in
      let m = told_in from to x in
      let z = told_in to n x in
      let split = told_split from to n x.states front others order low are long in
      let cut : only oid (pulses_in front) ≡ only oid a ++ (only oid m ++ only oid z) = ap (only oid) split ∙ only-append oid a (m ++ z) ∙ ap (λ t. only oid a ++ t) (only-append oid m z) in
      let one = between_told place entries ready turns 0 from x ss k (omega arith) (omega (arith, order, low, within)) oid in
      let two = between_told place entries ready turns from to x ss k order (omega (arith, low, within)) oid in
      let three = between_told place entries ready turns to n x ss k low within oid in
      let steps = section_steps oid s.section in
      let behind = k.run_is.tracked.behind from (omega (arith, begins, row.1)) (let l = i.limit in omega (arith, begins, row.2, l)) in
      let Start : ℕ → Type 0 = λ t. Own from ≤ lines_tick x.clocks (t * turn_ns) in
      let base : Own from ≤ base_of x.clocks s.section = subst Start begins behind in
      let late : AreLate (Own from) steps = late_fits x.board.freq (Own from) (base_of x.clocks s.section) steps (s.section.plan oid) base (i.is.fits oid) (i.is.spaced oid) in
      let soon : AreEarly (Own to) steps = section_early Own x.clocks x.board.freq x.board.slots ready to oid s.section ticks k.run_is.tracked i.is (omega (arith, row.1, row.2)) i.limit over in
      let least = middle_many (Own from) (Own to) (only oid a) (only oid m) (only oid z) early steps more (ticks_rise Own ticks from to order) (between_early (Own 0) (Own from) (only oid a) one) (between_late (Own from) (Own to) (only oid m) two)
      (between_early (Own from) (Own to) (only oid m) two) (between_late (Own to) (Own n) (only oid z) three) late soon (sym cut ∙ holds) in
      let fits = told_section place entries ready turns from to x past s later k begins order (omega (arith, low, within)) next oid in
      let most = fits_many x.board.freq (base_of x.clocks s.section) (only oid m) (s.section.plan oid) fits in
      let whole = i.is.whole oid in
      omega (arith, least, most, whole)

  -- where the board is still in its turns
  module _ (still : s.section.start ≤ lost_at turns k.split.tail → IsStillIn place entries s.section x) where
    abbrev First : ℕ
    First = s.section.start - 250

    -- the orders up to a turn by which all units are released, and up to another
    record Parts (e n : ℕ) : Type 0 where
      before : List Orders
      mine : List Orders
      others : List Orders
      behind : List Orders
      are : x.orders ≡ before ++ ((mine ++ others) ++ behind)
      before_is : before ≡ take First x.orders
      mine_is : mine ≡ take (e - First) (drop First x.orders)
      one : length before ≡ First
      two : First + length mine ≡ e
      three : First + length (mine ++ others) ≡ n

    parts : (e n : ℕ) → First ≤ e → e ≤ n → n ≤ turns → Parts e n
    parts e n one two three =
        let rest = drop First x.orders in
        let mine = take (e - First) rest in
        let more = drop (e - First) rest in
        let others = take (n - e) more in
        let behind = drop (n - e) more in
        let size = k.count in
        let rl = length-drop First x.orders in
        let bl : length (take First x.orders) ≡ First = length-take-le First x.orders (omega (arith, one, two, three, size)) in
        let ml : length mine ≡ e - First = length-take-le (e - First) rest (omega (arith, one, two, three, size, rl)) in
        let dl = length-drop (e - First) rest in
        let ol : length others ≡ n - e = length-take-le (n - e) more (omega (arith, one, two, three, size, rl, dl)) in
        let both = length-append mine others in
        record {
          before = take First x.orders;
          mine = mine;
          others = others;
          behind = behind;
          are = sym (take-append-drop First x.orders) ∙ ap (λ t. take First x.orders ++ t) (sym (take-append-drop (e - First) rest) ∙ ap (λ t. mine ++ t) (sym (take-append-drop (n - e) more)) ∙ sym (append_assoc mine others behind));
          before_is = refl;
          mine_is = refl;
          one = bl;
          two = omega (arith, ml, one);
          three = omega (arith, both, ml, ol, one, two);
        }

    -- what a board has made by a turn: it took a triple that was queued too late in that section's turns or before, and so shut down; or not
    abbrev Here : List State → LinkState → Type 0
    Here front last =
        ((last.core.board.controller.state ≡ Running → last.core.taken ≡ last.core.queued → ⊥) × ((oid : ℕ) → AreEarly (Own (s.section.end + 5)) (only oid (pulses_in front))))
        ⊎ ((last.core.board.controller.state ≡ Running → ((oid : ℕ) → Holds (section_steps oid s.section) (only oid (pulses_in front))) ⊎ ((oid : ℕ) → AreEarly (Own (s.section.end + 5)) (only oid (pulses_in front))))
        × (last.core.board.controller.state ≡ Running → last.core.taken ≡ last.core.queued → (oid : ℕ) → Holds (section_steps oid s.section) (only oid (pulses_in front))) × AreBefore (s.section.end + 5) s.section.releases)

    record Ran (n : ℕ) : Type 0 where
      front : List State
      others : List State
      last : LinkState
      are : x.states ≡ front ++ others
      long : length front ≡ n
      told : AreTold (clock_of x.board) 0 (take n x.orders) front (first_state x.board x.pins place entries) last
      here : Here front last
      reason : MayBe last.core.board.controller.state
      never : (tick first : ℕ) → NeverStop (take n x.orders) → last.core.board.controller.state ≡ Shut 5 tick first → ⊥
      idle : last.core.link.waiting ≡ [] → last.core.link.acked ≡ sent last.core.link → last.core.taken ≡ last.core.queued

    front_orders : (e n : ℕ) (p : Parts e n) → p.before ++ (p.mine ++ p.others) ≡ take n x.orders
    front_orders e n p =
        let all = p.are in
        let flat : x.orders ≡ (p.before ++ (p.mine ++ p.others)) ++ p.behind = all ∙ sym (append_assoc p.before (p.mine ++ p.others) p.behind) in
        let both = length-append p.before (p.mine ++ p.others) in
        let one = p.one in
        let three = p.three in
        let size : length (p.before ++ (p.mine ++ p.others)) ≡ n = omega (arith, both, one, three) in
        sym (ap (take n) flat ∙ take-append-le n (p.before ++ (p.mine ++ p.others)) p.behind (omega (arith, size)) ∙ take_all n (p.before ++ (p.mine ++ p.others)) (omega (arith, size)))

    abbrev E : ℕ
    E = s.section.end + 5

    ran : (n : ℕ) → E ≤ n → n ≤ turns → (E < n) ⊎ AreBefore E s.section.releases → Ran n
    ran n upto within known =
        let row = row_later ready past s later k.run_is.row in
        let p = parts E n (omega (arith, row.2)) upto within in
        let c = cut_board x place entries ready turns (past ++ s ∷ later) k p.before (p.mine ++ p.others) p.behind p.are in
        let one = p.one in
        let two = p.two in
        let three = p.three in
        let start_at : length p.before + 250 ≡ s.section.start = omega (arith, one, row.1) in
        let end_at : length p.before + length p.mine ≡ E = omega (arith, one, two) in
        let stop_at : length p.before + length (p.mine ++ p.others) ≡ n = omega (arith, one, three) in
        let Turns_at : List Orders → Type 0 = λ t. AreTurns (clock_of x.board) 0 t (first_state x.board x.pins place entries) c.mid in
        let same = c.made in
        let last_run = c.last_is in
        let total : length (p.before ++ ((p.mine ++ p.others) ++ p.behind)) ≡ turns = ap length (sym p.are) ∙ k.count in
        let left = where_left ready (length (p.before ++ ((p.mine ++ p.others) ++ p.behind))) past s later (courses c.span.split.front) c.span.split.tail k.run_is.row moves (omega (arith, total, row.2, upto, within)) c.span.split.begun in
        let until = c.until_is ∙ ap (λ (t : ℕ). lost_at t k.split.tail) k.count in
        let took = lost_taken x.board x.pins Own x.clocks ready k.stops (past ++ s ∷ later) p.before (p.mine ++ p.others) p.behind c.first c.second c.span in
        let soon = lost_early x.board x.pins Own x.clocks ready k.stops (past ++ s ∷ later) p.before (p.mine ++ p.others) p.behind c.first c.second c.span E in
        let lost : AreLostBy n c.span.split.tail → AreLostBy (E + 1) c.span.split.tail → Here c.states c.last = λ then early. inl (
          λ running all. took (subst (λ (t : ℕ). AreLostBy t c.span.split.tail) (sym stop_at) then) (ap (λ (h : Core). h.board.controller.state) (sym last_run) ∙ running) (ap (λ (h : Core). h.taken) (sym last_run) ∙ all ∙ ap (λ (h : Core). h.queued) last_run),
          λ oid. subst (λ (t : List Pulse). AreEarly (Own E) (only oid t)) same (soon early oid),
        ) in
        let made : AreReleasedIn past → s.section.start ≤ lost_at (length (p.before ++ ((p.mine ++ p.others) ++ p.behind))) c.span.split.tail → AreBefore E s.section.releases → Here c.states c.last = λ out first released.
        (let now = still (omega (arith, first, until)) in
        let calm = subst IsStillAt c.mid_is (now.begins c.mid (subst Turns_at p.before_is c.mid_turns)) in
        let bring = subst BringStill (sym p.mine_is) (now.goes_on E (omega (arith, row.2)) (omega arith)) in
        let go = made_or_early x.board x.pins Own x.clocks ready k.stops past s later p.before p.mine p.others p.behind c.first c.second c.span moves start_at end_at out released calm bring in
        let all_took = made_where_taken x.board x.pins Own x.clocks ready k.stops past s later p.before p.mine p.others p.behind c.first c.second c.span moves start_at end_at out released calm bring in
        inr (
          λ running. elim (go (ap (λ (h : Core). h.board.controller.state) (sym last_run) ∙ running)) [
            | inl m ↦ inl (λ oid. subst (λ (t : List Pulse). Holds (section_steps oid s.section) (only oid t)) same (m oid))
            | inr m ↦ inr (λ oid. subst (λ (t : List Pulse). AreEarly (Own E) (only oid t)) same (m oid))
          ],
          λ running all oid.
              let took_all = all_took (ap (λ (h : Core). h.board.controller.state) (sym last_run) ∙ running) (ap (λ (h : Core). h.taken) (sym last_run) ∙ all ∙ ap (λ (h : Core). h.queued) last_run) in
              subst (λ (t : List Pulse). Holds (section_steps oid s.section) (only oid t)) same (took_all oid),
          released,
        )) in
        let why = reason_last x.board x.pins Own x.clocks ready k.stops (past ++ s ∷ later) p.before (p.mine ++ p.others) p.behind c.first c.second c.span in
        let stop = never_last x.board x.pins Own x.clocks ready k.stops (past ++ s ∷ later) p.before (p.mine ++ p.others) p.behind c.first c.second c.span in
        let long = c.long in
        record {
          front = c.states;
          others = c.others;
          last = c.last;
          are = c.states_are;
          long = omega (arith, long, one, three);
          told = subst (λ (t : List Orders). AreTold (clock_of x.board) 0 t c.states (first_state x.board x.pins place entries) c.last) (front_orders E n p) c.told;
          here = elim left [
            | inl early ↦ lost (lost_up s.section.start n c.span.split.tail (omega (arith, row.2, upto)) early) (lost_up s.section.start (E + 1) c.span.split.tail (omega (arith, row.2)) early)
            | inr y ↦ elim y.2 [
              | inl at ↦ elim known [ inl far ↦ lost (lost_here E n c.span.split.tail far at) (lost_here E (E + 1) c.span.split.tail (omega arith) at) | inr released ↦ made y.0 y.1 released ]
              | inr soon_by ↦ elim known [ inl far ↦ made y.0 y.1 (soon_by (omega (arith, far, within, total))) | inr released ↦ made y.0 y.1 released ]
            ]
          ];
          reason = (let At : Core → Type 0 = λ h. MayBe h.board.controller.state in subst At (sym last_run) why);
          never = λ tick first never shut.
              let Never : List Orders → Type 0 = λ t. NeverStop t in
              stop tick first (subst Never (sym (front_orders E n p)) never) (ap (λ (h : Core). h.board.controller.state) (sym last_run) ∙ shut);
          idle = (let At : Core → Type 0 = λ h. h.link.waiting ≡ [] → h.link.acked ≡ sent h.link → h.taken ≡ h.queued in subst At (sym last_run) (idle_took x.board x.pins (c.first ++ c.second)));
        }

    -- where the state of a turn by which all units are released tells no shutdown that was not asked for, and that the link is idle
    pub idle_whole : (n : ℕ) (rest others : List State) (last : State) → to ≤ n → n ≤ turns → (E < n) ⊎ AreBefore E s.section.releases → x.states ≡ (rest ++ last ∷ []) ++ others → length (rest ++ last ∷ []) ≡ n → NeverStop (take n x.orders)
        → ((t : ShutNews) → last.shut ≡ Some t → t.reason ≡ timer_too_close → ⊥) → last.idle ≡ true → AreBefore E s.section.releases × ((oid : ℕ) → length (only oid (told_in from to x)) ≡ length (s.section.plan oid))
    idle_whole n rest others last reach within known cut size never in_time quiet =
        let r = ran n (omega (arith, over, reach)) within known in
        let same : r.front ≡ rest ++ last ∷ [] = front_is r.front r.others (rest ++ last ∷ []) others (sym r.are ∙ cut) (r.long ∙ sym size) in
        let Told : List State → Type 0 = λ t. AreTold (clock_of x.board) 0 (take n x.orders) t (first_state x.board x.pins place entries) r.last in
        let end = last_told (clock_of x.board) 0 (take n x.orders) rest last (first_state x.board x.pins place entries) r.last (subst Told same r.told) in
        let idle = end.0 quiet in
        let running = runs_so r.last.core.board.controller.state last.shut r.reason end.1 in_time (λ tick first shut. r.never tick first never shut) in
        let took = r.idle idle.0 idle.1 in
        elim r.here [ inl lost ↦ absurd (lost.0 running took) | inr made ↦ (made.2, λ oid. many n reach within r.front r.others r.are r.long oid (made.1 running took oid)) ]

    -- as where all are released by then
    pub known_by : (n : ℕ) → to ≤ n → AreBefore n s.section.releases → (E < n) ⊎ AreBefore E s.section.releases
    known_by n reach released = search (rules, leb_tells)

    -- or where it told any pulse behind these turns
    pub passed_whole : told_in to turns x ≢ [] → AreBefore E s.section.releases × ((oid : ℕ) → length (only oid (told_in from to x)) ≡ length (s.section.plan oid))
    passed_whole some =
        let count = told_count (clock_of x.board) 0 x.orders x.states (first_state x.board x.pins place entries) k.end k.told in
        let size = k.count in
        let rest = length-drop to x.states in
        let y = tells to x.states (λ e. some (ap pulses_in (take_all (turns - to) (drop to x.states) (omega (arith, rest, count, size))) ∙ e)) in
        let late = y.late in
        let n = length y.front + 1 in
        let front = y.front ++ y.state ∷ [] in
        let size_n : length front ≡ n = length-append y.front (y.state ∷ []) in
        let are : x.states ≡ front ++ y.behind = y.are ∙ sym (append_assoc y.front (y.state ∷ []) y.behind) in
        let few : n ≤ turns = (let e = ap length are in omega (arith, e, length-append front y.behind, size_n, count, size)) in
        let r = ran n (omega (arith, late, over)) few (inl (omega (arith, late, over))) in
        let same : r.front ≡ front = front_is r.front r.others front y.behind (sym r.are ∙ are) (r.long ∙ sym size_n) in
        let Told : List State → Type 0 = λ t. AreTold (clock_of x.board) 0 (take n x.orders) t (first_state x.board x.pins place entries) r.last in
        let told = subst Told same r.told in
        let none = last_runs (clock_of x.board) 0 (take n x.orders) y.front y.state (first_state x.board x.pins place entries) r.last told y.some in
        let ended = last_told (clock_of x.board) 0 (take n x.orders) y.front y.state (first_state x.board x.pins place entries) r.last told in
        let running = runs_on r.last.core.board.controller.state y.state.shut ended.1 none in
        let none_of : ((oid : ℕ) → AreEarly (Own E) (only oid (pulses_in r.front))) → ⊥ = λ early.
        (let At : List State → Type 0 = λ t. (o : ℕ) → AreEarly (Own E) (only o (pulses_in t)) in
        let all = subst At same early in
        let split : pulses_in front ≡ pulses_in y.front ++ (y.state.pulses ++ []) = flat_map-append (λ (t : State). t.pulses) y.front (y.state ∷ []) in
        let one : pulses_in (take (n - length y.front) (drop (length y.front) x.states)) ≡ y.state.pulses ++ [] =
        ap pulses_in (states_between y.front (y.state ∷ []) y.behind x.states (length y.front) n y.are refl (omega arith)) in
        none_early (Own E) (Own (length y.front)) (Own n) y.state.pulses (pulses_in y.front) (pulses_in front) y.some split all
        (λ o. subst (λ (t : List Pulse). AreBetween (Own (length y.front)) (Own n) (only o t)) one (between_told place entries ready turns (length y.front) n x (past ++ s ∷ later) k (omega arith) few o))
        (ticks_rise Own (k.own_is.ticks) E (length y.front) (omega (arith, late, over)))) in
        elim r.here [
          | inl lost ↦ absurd (none_of lost.1)
          | inr made ↦ elim (made.0 running) [ inl m ↦ (made.2, λ oid. many n (omega (arith, late)) few r.front r.others r.are r.long oid (m oid)) | inr early ↦ absurd (none_of early) ]
        ]
