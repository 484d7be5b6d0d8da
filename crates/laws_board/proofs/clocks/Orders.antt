-- The turns of a board in their order.
use Rattle.std.proofs.Common.{◌≡◌, ℕ, ◌+◌, List, [], ◌∷◌, ◌++◌, length, refl, sym, ◌∙◌, subst, arith, length-append}
use Rattle.laws_board.proofs.Names.{BoardClock, Level, Machine, IsValidMachine, Entry, Switch, AllKeepLimits, AreTurns, orders, IsTurn, LinkState, Orders, State, Control, Asking, Known, Phase, Connecting, Stopping, noted, Reacted, Came, known_by, last_reacted}
use Rattle.link_work.specs.Ends.{EndSo, Ended, last_link}
use Rattle.link_work.specs.Limits.{KeepsLimits}
use Rattle.host_reactor.specs.declared.ordered.Phase.TheVariants.{Running}
use Rattle.laws_board.specs.turns.Turns.{AreBoardTurns, BoardTurn, stands_after}
use Rattle.laws_board.specs.clocks.Runs.{IsInRun, UnitsFit, ends_in, orders_in}
use Rattle.laws_board.proofs.clocks.Limits.{control_closing, plain_bytes}
use Rattle.laws_board.proofs.clocks.Lines.{noted_phase, run_before, turn_of}
use Rattle.laws_board.proofs.clocks.Turning.{Asks, BoardTurned, Ends, Runs}
use Rattle.link_work.proofs.Shut.{last_more}

pub order_length : (turns : List BoardTurn) → length (orders_in turns) ≡ length turns
order_length [] = refl
order_length (t ∷ before) = omega (arith, length-append (orders_in before) (orders t.control t.batch ∷ []), order_length before)

one_later : (clock : BoardClock) (turn n : ℕ) (os : List Orders) (o : Orders) (l m k : LinkState) → AreTurns clock turn os l m → n ≡ turn + length os → IsTurn clock n o m k → AreTurns clock turn (os ++ o ∷ []) l k
one_later clock turn n [] o l m k are e t =
    let same : n ≡ turn = omega arith in
    let here : IsTurn clock turn o m k = subst (λ (x : ℕ). IsTurn clock x o m k) same t in
    (k, subst (λ (x : LinkState). IsTurn clock turn o x k) are here, refl)
one_later clock turn n (x ∷ os) o l m k are e t = (are.0, are.1, one_later clock (turn + 1) n os o are.0 m k are.2 (omega arith) t)

pub turns_in_order : (clock : BoardClock) (first : LinkState) (turns : List BoardTurn) → AreBoardTurns clock first turns → AreTurns clock 0 (orders_in turns) first (stands_after first turns)
turns_in_order clock first [] are = refl
turns_in_order clock first (t ∷ before) are =
    one_later clock 0 (length before) (orders_in before) (orders t.control t.batch) first (stands_after first before) t.after (turns_in_order clock first before are.1) (omega (arith, order_length before)) are.0.0

pub last_stands : (first : LinkState) (turns : List BoardTurn) → last_link first (ends_in turns) ≡ stands_after first turns
last_stands first [] = refl
last_stands first (t ∷ before) = last_more first (ends_in before) (record { turn = length before; link = t.after })

end_later : (clock : BoardClock) (turn n : ℕ) (os : List Orders) (o : Orders) (l m k : LinkState) (ends : List Ended) → EndSo clock turn os l ends → last_link l ends ≡ m → n ≡ turn + length os → IsTurn clock n o m k
    → EndSo clock turn (os ++ o ∷ []) l (ends ++ record { turn = n; link = k } ∷ [])
end_later clock turn n [] o l m k [] so last e t =
    let same : n ≡ turn = omega arith in
    let here : IsTurn clock turn o m k = subst (λ (x : ℕ). IsTurn clock x o m k) same t in
    (same, subst (λ (x : LinkState). IsTurn clock turn o x k) (sym last) here, refl)
end_later clock turn n [] o l m k (x ∷ ends) so last e t = cc
end_later clock turn n (y ∷ os) o l m k [] so last e t = absurd so
end_later clock turn n (y ∷ os) o l m k (x ∷ ends) so last e t = (so.0, so.1, end_later clock (turn + 1) n os o x.link m k ends so.2 last (omega arith) t)

pub ends_in_order : (clock : BoardClock) (first : LinkState) (turns : List BoardTurn) → AreBoardTurns clock first turns → EndSo clock 0 (orders_in turns) first (ends_in turns)
ends_in_order clock first [] are = refl
ends_in_order clock first (t ∷ before) are =
    end_later clock 0 (length before) (orders_in before) (orders t.control t.batch) first (stands_after first before) t.after (ends_in before) (ends_in_order clock first before are.1) (last_stands first before)
    (omega (arith, order_length before)) are.0.0

-- the limits
limits_both : (xs : List Orders) (o : Orders) → AllKeepLimits xs → KeepsLimits o → AllKeepLimits (xs ++ o ∷ [])
limits_both [] o k l = (l, tt)
limits_both (x ∷ xs) o k l = (k.0, limits_both xs o k.1 l)

pub not_stopped : (p : Phase) (line : ℕ) → p ≡ Connecting → p ≡ Stopping line → ⊥
not_stopped p line e f = let g : Connecting ≡ Stopping line = sym e ∙ f in cc

pub not_stopping : (p : Phase) (line : ℕ) → p ≡ Running → p ≡ Stopping line → ⊥
not_stopping p line e f = let g : Running ≡ Stopping line = sym e ∙ f in cc

pub goes_before : (m : Machine) (r : Known) (b k : ℕ) (states : List State) (a : Asking) (x : Reacted) (c : Control) → BoardTurned m r b k states a x c → (line : ℕ) → r.phase ≡ Stopping line → ⊥
goes_before m r b k states a x c (Asks p g) line e = not_stopped r.phase line p e
goes_before m r b k states a x c (Ends p g) line e = not_stopped r.phase line p e
goes_before m r b k states a x c (Runs p g) line e = not_stopping r.phase line p e

pub all_limits : (m : Machine) (switches : List Switch) (pins : List (List Level)) (entries : List Entry) (b : ℕ) (came : List Came) (turns : List BoardTurn) → IsValidMachine m
    → IsInRun m switches pins entries b came turns → ((line : ℕ) → (known_by m switches came).phase ≡ Stopping line → ⊥) → UnitsFit turns → AllKeepLimits (orders_in turns)
all_limits m switches pins entries b [] [] v r n u = tt
all_limits m switches pins entries b [] (t ∷ turns) v r n u = absurd r.both
all_limits m switches pins entries b (c ∷ before) [] v r n u = absurd r.both
all_limits m switches pins entries b (c ∷ before) (t ∷ turns) v r n u =
    let x = turn_of m switches pins entries b c before t turns r in
    let k = noted m c.note (known_by m switches before) in
    let old = λ (line : ℕ). λ (e : (known_by m switches before).phase ≡ Stopping line).
    goes_before m k b (length before) c.states x.a (last_reacted m switches c before) t.control x.turned line (noted_phase m c.note (known_by m switches before) ∙ e) in
    limits_both (orders_in turns) (orders t.control t.batch) (all_limits m switches pins entries b before turns v (run_before m switches pins entries b c before t turns r) old u.1)
    (record { controls = plain_bytes m switches pins entries b c before t turns v r n; units = u.0; closing = control_closing m switches pins entries b c before t turns r })
