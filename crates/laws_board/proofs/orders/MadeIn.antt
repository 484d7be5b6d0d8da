-- Each stepper of a board is made before connecting ends.
use Rattle.std.proofs.Common.{◌≡◌, ℕ, suc, ◌+◌, ◌<◌, ◌≤◌, inl, inr, Bool, true, false, cond, List, [], ◌∷◌, ◌++◌, length, take, refl, ap, sym, ◌∙◌, subst, arith, rules}
use Rattle.laws_board.proofs.Names.{leb_tells, eqb-true, Level, Machine, IsValidMachine, stepper_at, Cmd, Entry, Switch, orders, Orders, Phase, Connecting, Stopping, Came, known_by}
use Rattle.std.proofs.lemmas.List.{take-append-le}
use Rattle.std.proofs.Math.Seq.{take-length}
use Rattle.msg_code.specs.declared.cmd.Cmd.TheVariants as cmd
use Rattle.host_reactor.specs.declared.ordered.Phase.TheVariants.{Running}
use Rattle.laws_board.specs.turns.Turns.{BoardTurn}
use Rattle.laws_board.specs.clocks.Ordered.{commands_in, makes, times_made}
use Rattle.laws_board.specs.clocks.Runs.{IsInRun, orders_in}
use Rattle.laws_board.proofs.clocks.Lines.{as_long, run_before}
use Rattle.laws_board.proofs.clocks.Made.{made_before, times_both}
use Rattle.laws_board.proofs.clocks.Orders.{order_length}
use Rattle.laws_board.specs.sections.Parts.{IsMaking, Makes, MakesIn}
use Rattle.laws_board.specs.orders.Ready.{is_connecting, ready_turn}

making : (oid : ℕ) (c : Cmd) → makes oid c ≡ true → IsMaking oid c
making oid (cmd.ConfigStepper other step dir invert width) e = eqb-true other oid e
making oid c e = cc

one_made : (oid : ℕ) (c : Cmd) (cs : List Cmd) (t : Bool) → makes oid c ≡ t → 1 ≤ cond t 1 0 + times_made oid cs → (1 ≤ times_made oid cs → Makes oid cs) → Makes oid (c ∷ cs)
one_made oid c cs true e l f = inl (making oid c e)
one_made oid c cs false e l f = inr (f (omega arith))

some_made : (oid : ℕ) (cs : List Cmd) → 1 ≤ times_made oid cs → Makes oid cs
some_made oid [] l = absurd (omega arith)
some_made oid (c ∷ cs) l = one_made oid c cs (makes oid c) refl l (λ k. some_made oid cs k)

made_first : (oid : ℕ) (xs ys : List Orders) → MakesIn oid xs → MakesIn oid (xs ++ ys)
made_first oid [] ys k = absurd k
made_first oid (x ∷ xs) ys (inl k) = inl k
made_first oid (x ∷ xs) ys (inr k) = inr (made_first oid xs ys k)

made_last : (oid : ℕ) (xs : List Orders) (o : Orders) → Makes oid o.control.commands → MakesIn oid (xs ++ o ∷ [])
made_last oid [] o k = inl k
made_last oid (x ∷ xs) o k = inr (made_last oid xs o k)

made_orders : (oid : ℕ) (turns : List BoardTurn) → 1 ≤ times_made oid (commands_in turns) → MakesIn oid (orders_in turns)
made_orders oid [] l = absurd (omega arith)
made_orders oid (t ∷ before) l =
    let both = times_both oid (commands_in before) t.control.commands in
    elim (leb_tells 1 (times_made oid t.control.commands)) [
      | inl p ↦ made_last oid (orders_in before) (orders t.control t.batch) (some_made oid t.control.commands p.1)
      | inr p ↦ let q = p.1 in made_first oid (orders_in before) (orders t.control t.batch ∷ []) (made_orders oid before (omega arith))
    ]

-- the turn in which connecting ends
ready_early : (m : Machine) (switches : List Switch) (came : List Came) → ready_turn m switches came ≤ length came
ready_early m switches [] = omega arith
ready_early m switches (c ∷ before) = one (is_connecting (known_by m switches before).phase) (ready_early m switches before)
  where
    one : (t : Bool) → ready_turn m switches before ≤ length before → cond t (length before) (ready_turn m switches before) ≤ suc (length before)
    one true l = omega arith
    one false l = omega arith

connecting_is : (p : Phase) → is_connecting p ≡ true → p ≡ Connecting
connecting_is Connecting e = refl
connecting_is c e = cc

not_connecting : (p : Phase) → is_connecting p ≡ false → p ≡ Connecting → ⊥
not_connecting Connecting e f = cc
not_connecting c e f = cc

front_same : (turns : List BoardTurn) (t : BoardTurn) (n : ℕ) → n ≤ length turns → take n (orders_in (t ∷ turns)) ≡ take n (orders_in turns)
front_same turns t n l = search (rules, order_length, take-append-le, orders)

abbrev Made : Machine → ℕ → ℕ → List BoardTurn → Type 0
Made m s n turns = MakesIn (stepper_at m s).oid (take n (orders_in turns))

pub made_ready : (m : Machine) (switches : List Switch) (pins : List (List Level)) (entries : List Entry) (b : ℕ) (came : List Came) (turns : List BoardTurn) → IsValidMachine m
    → IsInRun m switches pins entries b came turns → ((known_by m switches came).phase ≡ Connecting → ⊥) → (s : ℕ) → s < length m.steppers → (stepper_at m s).board ≡ b
    → MakesIn (stepper_at m s).oid (take (ready_turn m switches came) (orders_in turns))
made_ready m switches pins entries b [] [] v r n s l e = absurd (n refl)
made_ready m switches pins entries b [] (t ∷ turns) v r n s l e = absurd r.both
made_ready m switches pins entries b (c ∷ before) [] v r n s l e = absurd r.both
made_ready m switches pins entries b (c ∷ before) (t ∷ turns) v r n s l e =
    let rest = run_before m switches pins entries b c before t turns r in
    let long = as_long m switches b before turns r.both.2 in
    by_phase (is_connecting (known_by m switches before).phase) refl
    (λ p.
    let one = made_before m switches pins entries b c before t turns v r p n s l e in
    let all = made_orders (stepper_at m s).oid turns (omega arith) in
    let size : length before ≡ length (orders_in turns) = omega (arith, order_length turns) in
    let whole : take (length before) (orders_in turns) ≡ orders_in turns = ap (λ (k : ℕ). take k (orders_in turns)) size ∙ take-length (orders_in turns) in
    let same = front_same turns t (length before) (omega arith) ∙ whole in
    subst (λ (os : List Orders). MakesIn (stepper_at m s).oid os) (sym same) all)
    (λ p.
    let old = made_ready m switches pins entries b before turns v rest p s l e in
    let early = ready_early m switches before in
    subst (λ (os : List Orders). MakesIn (stepper_at m s).oid os) (sym (front_same turns t (ready_turn m switches before) (omega arith))) old)
  where
    by_phase : (q : Bool) → is_connecting (known_by m switches before).phase ≡ q
        → ((known_by m switches before).phase ≡ Connecting → Made m s (length before) (t ∷ turns))
        → (((known_by m switches before).phase ≡ Connecting → ⊥) → Made m s (ready_turn m switches before) (t ∷ turns))
        → Made m s (cond q (length before) (ready_turn m switches before)) (t ∷ turns)
    by_phase true e f g = f (connecting_is (known_by m switches before).phase e)
    by_phase false e f g = g (not_connecting (known_by m switches before).phase e)
