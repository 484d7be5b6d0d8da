-- A board's turns up to one of the reactor's, and what is known of them.
use Rattle.std.proofs.Common.{◌≡◌, ℕ, ◌+◌, ◌*◌, ◌<◌, ◌≤◌, ◌⊎◌, true, cond, List, [], ◌∷◌, ◌++◌, All, map, take, length, None, refl, ap, sym, ◌∙◌, subst, arith, inl, inr, append_assoc, append-nil, rules}
use Rattle.std.proofs.lemmas.List.{take-append-le}
use Rattle.laws_board.proofs.Names.{All-head, Level, Machine, Line, BoardClock, clock_of, turn_ns, Clocks, IsValidMachine, board_at, stepper_at, clocks_at, Entry, Switch, plain, AllKeepLimits, orders, Orders, Phase, Connecting, Stopping, noted, Came, known_by, last_reacted, BoardSection, ReactorTurn}
use Rattle.msg_code.specs.declared.talk.WordNews.{WordNews}
use Rattle.board_world.specs.World.{on_wire}
use Rattle.link_work.specs.Limits.{bytes_in, closing_in}
use Rattle.link_work.proofs.Late.{limits_split}
use Rattle.host_reactor.specs.declared.ordered.Phase.TheVariants.{Running}
use Rattle.laws_board.specs.turns.Turns.{BoardTurn}
use Rattle.laws_board.specs.clocks.Runs.{IsInRun, UnitsFit, orders_in}
use Rattle.laws_board.specs.clocks.Samples.{IsSampled, lines_told}
use Rattle.laws_board.proofs.clocks.Askings.{sample_more}
use Rattle.laws_board.proofs.clocks.Clear.{told_before}
use Rattle.laws_board.proofs.clocks.Lines.{as_long, noted_phase, run_before, told_lines}
use Rattle.laws_board.proofs.clocks.Limits.{control_closing, plain_bytes}
use Rattle.laws_board.proofs.clocks.Orders.{all_limits, order_length}
use Rattle.laws_board.proofs.clocks.Turning.{goes}
use Rattle.laws_board.specs.sections.Timely.{ControlsKeep}
use Rattle.laws_board.specs.sections.Parts.{AreTracked, IsControl, MakesIn}
use Rattle.laws_board.specs.orders.Ready.{is_connecting, ready_turn}
use Rattle.laws_board.proofs.orders.Controlled.{controls_plain}
use Rattle.laws_board.proofs.orders.MadeIn.{made_ready}
use Rattle.session_run.specs.Boards.{came_from, came_in}
use Rattle.laws_board.specs.plans.Given.{EndBefore, TookControls}
use Rattle.laws_run.proofs.clock_ages.Own.{AreRenewed, Own, follow_on}
use Rattle.laws_run.proofs.run_headline.Plain.{AllMoves, known_none, noted_none}
use Rattle.laws_run.proofs.run_headline.Words.{Connected, line_is}

-- a turn behind the ends of all sections
abbrev total : List BoardSection → ℕ
total [] = 0
total (s ∷ ss) = s.end + 1 + total ss

controls_both : (xs : List Orders) (o : Orders) → ControlsKeep xs → bytes_in (map on_wire (map plain o.control.commands)) ≤ 42 → closing_in (map on_wire (map plain o.control.commands)) ≤ 1 → ControlsKeep (xs ++ o ∷ [])
controls_both [] o k l n = (l, n, tt)
controls_both (x ∷ xs) o k l n = (k.0, k.1, controls_both xs o k.2 l n)

controls_split : (xs ys : List Orders) → ControlsKeep (xs ++ ys) → ControlsKeep xs
controls_split [] ys k = tt
controls_split (x ∷ xs) ys k = (k.0, k.1, controls_split xs ys k.2)

module _ (m : Machine) (v : IsValidMachine m) (switches : List Switch) (pins : List (List Level)) (entries : List Entry) (b : ℕ) where
  abbrev Run : List Came → List BoardTurn → Type 0
  Run came turns = IsInRun m switches pins entries b came turns

  -- the turns up to one of the reactor's
  pub record Front (came : List Came) (turns : List BoardTurn) : Type 0 where
    pub front : List BoardTurn
    pub run : Run came front
    pub more : List Orders
    pub are : orders_in turns ≡ orders_in front ++ more
    pub later : List BoardTurn
    pub cut : turns ≡ later ++ front

  pub one_less : (c : Came) (before : List Came) (turns : List BoardTurn) → Run (c ∷ before) turns → (t : BoardTurn) × (rest : List BoardTurn) × (turns ≡ t ∷ rest) × Run (c ∷ before) (t ∷ rest) × Run before rest
  one_less c before [] r = absurd r.both
  one_less c before (t ∷ turns) r = (t, turns, refl, r, run_before m switches pins entries b c before t turns r)

  pub front_of : (came : List Came) (rs : List ReactorTurn) (turns : List BoardTurn) → Run (came_from came rs) turns → Front came turns
  front_of came [] turns r = record { front = turns; run = r; more = []; are = sym (append-nil (orders_in turns)); later = []; cut = refl }
  front_of came (t ∷ rs) turns r =
      let f = front_of (came_in t ∷ came) rs turns r in
      let l = one_less (came_in t) came f.front f.run in
      let last = orders l.0.control l.0.batch ∷ [] in
      record {
        front = l.1;
        run = l.4;
        more = last ++ f.more;
        are = f.are ∙ ap (λ x. orders_in x ++ f.more) l.2 ∙ append_assoc (orders_in l.1) last f.more;
        later = f.later ++ l.0 ∷ [];
        cut = f.cut ∙ ap (λ x. f.later ++ x) l.2 ∙ sym (append_assoc f.later (l.0 ∷ []) l.1);
      }

  -- the controls of a run of moves
  took_both : (xs : List Orders) (o : Orders) → TookControls xs → All IsControl o.control.commands → TookControls (xs ++ o ∷ [])
  took_both [] o k a = (a, tt)
  took_both (x ∷ xs) o k a = (k.0, took_both xs o k.1 a)

  pub controlled : (came : List Came) (turns : List BoardTurn) → Run came turns → AllMoves came → TookControls (orders_in turns)
  controlled [] [] r h = tt
  controlled [] (t ∷ turns) r h = absurd r.both
  controlled (c ∷ before) [] r h = absurd r.both
  controlled (c ∷ before) (t ∷ turns) r h =
      let none = noted_none m c.note (known_by m switches before) (known_none m switches before r.goes_on.1 h.1) h.0 in
      took_both (orders_in turns) (orders t.control t.batch) (controlled before turns (run_before m switches pins entries b c before t turns r) h.1) (controls_plain m switches pins entries b c before t turns v r none)

  -- the limits of all turns but the last
  not_stopping : (p q : Phase) (line : ℕ) → p ≡ q → (q ≡ Connecting) ⊎ (q ≡ Running) → p ≡ Stopping line → ⊥
  not_stopping p q line e (inl c) f = let g : Connecting ≡ Stopping line = sym c ∙ sym e ∙ f in cc
  not_stopping p q line e (inr c) f = let g : Running ≡ Stopping line = sym c ∙ sym e ∙ f in cc

  before_on : (c : Came) (before : List Came) → (last_reacted m switches c before).ordered.end ≡ None → (line : ℕ) → (known_by m switches before).phase ≡ Stopping line → ⊥
  before_on c before e line f = search (rules, known_by, not_stopping, noted, noted_phase, goes)

  prefix_of : (done : List Orders) (o : Orders) (more xs : List Orders) (last : Orders) → done ++ o ∷ more ≡ xs ++ last ∷ [] → (rest : List Orders) × (xs ≡ done ++ rest)
  prefix_of [] o more xs last e = (xs, refl)
  prefix_of (d ∷ done) o more [] last e = absurd (none done o more (let f : d ∷ (done ++ o ∷ more) ≡ last ∷ [] = e in cc))
    where
      none : (done : List Orders) (o : Orders) (more : List Orders) → done ++ o ∷ more ≡ [] → ⊥
      none [] o more e = cc
      none (d ∷ done) o more e = cc
  prefix_of (d ∷ done) o more (x ∷ xs) last e =
      let first : d ≡ x = cc in
      let then : done ++ o ∷ more ≡ xs ++ last ∷ [] = cc in
      let p = prefix_of done o more xs last then in
      (p.0, ap (λ y. y ∷ xs) (sym first) ∙ ap (λ y. d ∷ y) p.1)

  pub limited : (came : List Came) (turns : List BoardTurn) → Run came turns → UnitsFit turns → (done : List Orders) (o : Orders) (more : List Orders) → orders_in turns ≡ done ++ o ∷ more → AllKeepLimits done
  limited [] [] r u done o more e = absurd (none done o more e)
    where
      none : (done : List Orders) (o : Orders) (more : List Orders) → [] ≡ done ++ o ∷ more → ⊥
      none [] o more e = cc
      none (d ∷ done) o more e = cc
  limited [] (t ∷ turns) r u done o more e = absurd r.both
  limited (c ∷ before) [] r u done o more e = absurd r.both
  limited (c ∷ before) (t ∷ turns) r u done o more e =
      let all = all_limits m switches pins entries b before turns v (run_before m switches pins entries b c before t turns r) (before_on c before r.goes_on.0) u.1 in
      let p = prefix_of done o more (orders_in turns) (orders t.control t.batch) (sym e) in
      (limits_split done p.0 (subst AllKeepLimits p.1 all)).0

  -- those of the control commands, whatever units are sent
  all_controls : (came : List Came) (turns : List BoardTurn) → Run came turns → ((line : ℕ) → (known_by m switches came).phase ≡ Stopping line → ⊥) → ControlsKeep (orders_in turns)
  all_controls [] [] r n = tt
  all_controls [] (t ∷ turns) r n = absurd r.both
  all_controls (c ∷ before) [] r n = absurd r.both
  all_controls (c ∷ before) (t ∷ turns) r n =
      controls_both (orders_in turns) (orders t.control t.batch) (all_controls before turns (run_before m switches pins entries b c before t turns r) (before_on c before r.goes_on.0))
      (plain_bytes m switches pins entries b c before t turns v r n) (control_closing m switches pins entries b c before t turns r)

  pub controls_limited : (came : List Came) (turns : List BoardTurn) → Run came turns → (done : List Orders) (o : Orders) (more : List Orders) → orders_in turns ≡ done ++ o ∷ more → ControlsKeep done
  controls_limited [] [] r done o more e = absurd (none done o more e)
    where
      none : (done : List Orders) (o : Orders) (more : List Orders) → [] ≡ done ++ o ∷ more → ⊥
      none [] o more e = cc
      none (d ∷ done) o more e = cc
  controls_limited [] (t ∷ turns) r done o more e = absurd r.both
  controls_limited (c ∷ before) [] r done o more e = absurd r.both
  controls_limited (c ∷ before) (t ∷ turns) r done o more e =
      let all = all_controls before turns (run_before m switches pins entries b c before t turns r) (before_on c before r.goes_on.0) in
      let p = prefix_of done o more (orders_in turns) (orders t.control t.batch) (sym e) in
      let Keep : List Orders → Type 0 = λ x. ControlsKeep x in
      controls_split done p.0 (subst Keep p.1 all)

  -- the clock lines
  ends_before : (ss : List BoardSection) (n : ℕ) → EndBefore (n + total ss) ss
  ends_before [] n = tt
  ends_before (s ∷ ss) n =
      let e : n + (s.end + 1) + total ss ≡ n + (s.end + 1 + total ss) = omega arith in
      (omega arith, subst (λ (k : ℕ). EndBefore k ss) e (ends_before ss (n + (s.end + 1))))

  pub record Followed (turns : ℕ) (clocks : Clocks) (ready : ℕ) (parts : List BoardSection) : Type 0 where
    pub tracked : AreTracked (Own m b turns) clocks ready
    pub over : EndBefore tracked.until parts

  -- a sample of some turns is one of more
  pub sampled_later : (clock : BoardClock) (later front : List BoardTurn) (line : Line) → IsSampled clock front line → IsSampled clock (later ++ front) line
  sampled_later clock [] front line x = x
  sampled_later clock (t ∷ later) front line x = let r = sampled_later clock later front line x in (r.0, sample_more clock t (later ++ front) r.0 r.1, r.2)

  -- the first line of a board, as it was told in the turn that ended connecting
  pub record IsFirst (all : List BoardTurn) (ready : ℕ) (first : Line) : Type 0 where
    pub sampled : IsSampled (clock_of (board_at m b)) all first
    pub early : first.at ≤ ready * turn_ns

  pub first_sampled : (came : List Came) (c : Came) (t : BoardTurn) (turns later : List BoardTurn) (firsts : List Clocks) → Run (c ∷ came) (t ∷ turns) → Connected m (known_by m switches came) (length came) (last_reacted m switches c came) firsts
      → IsFirst (later ++ t ∷ turns) (length turns) (clocks_at firsts b).first
  first_sampled came c t turns later firsts r x =
      let clock = clock_of (board_at m b) in
      let l = line_is (length came) b m.boards x.lines x.fit r.board in
      let told = told_lines m switches pins entries b c came t turns r in
      let Told : List Line → Type 0 = λ ls. All (IsSampled clock turns) ls in
      let News : List WordNews → Type 0 = λ ns. All (IsSampled clock turns) (lines_told b ns) in
      let some = subst Told (ap (λ ls. ls ++ []) l.1) (subst News x.news told) in
      let sampled : IsSampled clock turns l.0 = All-head (IsSampled clock turns) l.0 [] some in
      let first_is : l.0 ≡ (clocks_at firsts b).first = ap (λ (c : Clocks). c.first) (sym l.2 ∙ ap (λ cs. clocks_at cs b) (sym x.clocks_are)) in
      let own = subst (IsSampled clock turns) first_is sampled in
      let i = own.1 in
      let from = i.from in
      let to = i.to in
      let got = told_before (i.block + 1) own.0.clock own.0.got turns i.told in
      let at = ap (λ (l : Line). l.at) own.2 in
      record { sampled = sampled_later clock later (t ∷ turns) (clocks_at firsts b).first (own.0, sample_more clock t turns own.0 i, own.2); early = omega (arith, at, from, to, got) }

  pub followed : (turns ready : ℕ) (clocks : Clocks) (parts : List BoardSection) → AreRenewed m b turns ready clocks → Followed turns clocks ready parts
  followed turns ready clocks parts r =
      let Until : ℕ → Type 0 = λ n. EndBefore n parts in
      let y = follow_on m b turns ready (0 + total parts) clocks r in
      record { tracked = y.0; over = subst Until (sym y.1) (ends_before parts 0) }

  -- the steppers
  pub stepper_made : (came : List Came) (c : Came) (t : BoardTurn) (turns : List BoardTurn) (clocks : List Clocks) (all more : List Orders) → Run (c ∷ came) (t ∷ turns)
      → Connected m (known_by m switches came) (length came) (last_reacted m switches c came) clocks → all ≡ orders_in (t ∷ turns) ++ more
      → (s : ℕ) → s < length m.steppers → (stepper_at m s).board ≡ b → MakesIn (stepper_at m s).oid (take (length turns) all)
  stepper_made came c t turns clocks all more r x are s low on =
      let running : (known_by m switches (c ∷ came)).phase ≡ Connecting → ⊥ = λ e. let f : Running ≡ Connecting = sym x.then ∙ e in cc in
      let made = made_ready m switches pins entries b (c ∷ came) (t ∷ turns) v r running s low on in
      let connecting : is_connecting (known_by m switches came).phase ≡ true = ap is_connecting x.phase in
      let long = as_long m switches b came turns r.both.2 in
      let ready : ready_turn m switches (c ∷ came) ≡ length turns = ap (λ q. cond q (length came) (ready_turn m switches came)) connecting ∙ long in
      let front = ap (λ n. take n (orders_in (t ∷ turns))) ready in
      let same : take (length turns) all ≡ take (length turns) (orders_in (t ∷ turns)) =
      ap (take (length turns)) are ∙ take-append-le (length turns) (orders_in (t ∷ turns)) more (omega (arith, order_length (t ∷ turns))) in
      let At : List Orders → Type 0 = λ os. MakesIn (stepper_at m s).oid os in
      subst At (sym same) (subst At front made)
