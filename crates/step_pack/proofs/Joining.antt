-- Pieces one behind the other.
use Rattle.std.proofs.Common.{◌≡◌, ℕ, ◌+◌, ◌-◌, ◌/◌, min, List, [], ◌∷◌, ◌++◌, length, map, drop, arith, refl, ap, ◌∙◌, append_assoc, length-drop}
use Rattle.plan_types.specs.declared.plan.Planned.{Planned}
use Rattle.plan_types.specs.declared.plan.Triple.{Triple}
use Rattle.plan_types.specs.declared.plan.Window.{Window}
use Rattle.plan_types.specs.Board.{Expands, last_of}
use Rattle.plan_types.specs.Packing.{windows_of, open_windows, window_at, last_tick, Packs, AreInWindows, HasExpansion, KeepDirections}
use Rattle.step_pack.proofs.Rows.{drop_both}
use Rattle.step_pack.proofs.Expanding.{one_way_all}
use Rattle.step_pack.proofs.Fitting.{ending}
use Rattle.step_pack.proofs.Piecewise.{IsPiece, piece_of, piece_drop, covers_all, within_open, length-windows}

-- the last planned tick, or the tick behind which there are no steps
abbrev pub end_of : ℕ → List Planned → ℕ
end_of last steps = last_of last (map (λ s. s.tick) steps)

pub last_appended : (d : ℕ) (xs ys : List ℕ) → last_of d (xs ++ ys) ≡ last_of (last_of d xs) ys
last_appended d [] ys = refl
last_appended d (x ∷ xs) ys = last_appended x xs ys

expands_appended : (last : ℕ) (triples others : List Triple) (ticks more : List ℕ) → Expands last triples ticks → Expands (last_of last ticks) others more → Expands last (triples ++ others) (ticks ++ more)
expands_appended last [] others ticks more one two = rw one (rw one at two)
expands_appended last (t ∷ triples) others ticks more one two =
    let same : last_of last ticks ≡ last_of (last_of last one.0) one.1 = ap (last_of last) one.2 ∙ last_appended last one.0 one.1 in
    let all : ticks ++ more ≡ one.0 ++ (one.1 ++ more) = ap (λ x. x ++ more) one.2 ∙ append_assoc one.0 one.1 more in
    (one.0, one.1 ++ more, all, one.3, expands_appended (last_of last one.0) triples others one.1 more one.4 (rw same at two))

in_appended : (ticks more : List ℕ) (ws vs : List Window) → AreInWindows ticks ws → AreInWindows more vs → AreInWindows (ticks ++ more) (ws ++ vs)
in_appended [] more ws vs one two = rw one two
in_appended (t ∷ ticks) more [] vs one two = absurd one
in_appended (t ∷ ticks) more (w ∷ ws) vs one two = (one.0, one.1, in_appended ticks more ws vs one.2 two)

open_appended : (e last : ℕ) (steps more : List Planned) → open_windows e last (steps ++ more) ≡ open_windows e last steps ++ open_windows e (end_of last steps) more
open_appended e last [] more = refl
open_appended e last (s ∷ steps) more = ap (λ ws. record { low = s.tick - min e ((s.tick - last) / 2); high = s.tick; up = s.up } ∷ ws) (open_appended e s.tick steps more)

pub expansions_join : (e last : ℕ) (steps more : List Planned) (triples others : List Triple) → HasExpansion last (windows_of e last steps) triples
    → HasExpansion (end_of last steps) (open_windows e (end_of last steps) more) others → HasExpansion last (open_windows e last (steps ++ more)) (triples ++ others)
expansions_join e last steps more triples others one two =
    let end : last_of last one.0 ≡ end_of last steps = ending e last steps one.0 one.2 in (
      one.0 ++ two.0,
      expands_appended last triples others one.0 two.0 one.1 (rw end two.1),
      rw open_appended (in_appended one.0 two.0 (open_windows e last steps) (open_windows e (end_of last steps) more) (within_open e last steps one.0 one.2) two.2),
    )

keep_more : (behind : ℕ) (piece all rest : List Window) (triples others : List Triple) → IsPiece piece all → drop (length piece) all ≡ rest → Packs behind piece triples → KeepDirections rest others
    → KeepDirections all (triples ++ others)
keep_more behind piece all rest [] others is same packs keep =
    let e : all ≡ rest = rw packs at same in
    rw e keep
keep_more behind piece all rest (t ∷ triples) others is same packs keep =
    let covers = covers_all behind packs.0 t.interval t.count t.add piece all is packs.1 in
    let within = packs.1.within in
    let less = length-drop t.count piece in
    let sum : t.count + length (drop t.count piece) ≡ length piece = omega (arith, less, within) in
    let behind-is : drop (length (drop t.count piece)) (drop t.count all) ≡ rest = rw (drop_both, sum) same in
    (one_way_all (window_at all 0).up t.count all covers.within covers.one_way, keep_more (last_tick packs.0 t) (drop t.count piece) (drop t.count all) rest triples others (piece_drop t.count piece all is) behind-is packs.3 keep)

open_dropped : (e last : ℕ) (steps more : List Planned) → drop (length steps) (open_windows e last (steps ++ more)) ≡ open_windows e (end_of last steps) more
open_dropped e last [] more = refl
open_dropped e last (s ∷ steps) more = open_dropped e s.tick steps more

pub directions_join : (e last : ℕ) (steps more : List Planned) (triples others : List Triple) → Packs last (windows_of e last steps) triples
    → KeepDirections (open_windows e (end_of last steps) more) others → KeepDirections (open_windows e last (steps ++ more)) (triples ++ others)
directions_join e last steps more triples others packs keep =
    keep_more last (windows_of e last steps) (open_windows e last (steps ++ more)) (open_windows e (end_of last steps) more) triples others (piece_of e last steps more)
    (rw length-windows (open_dropped e last steps more)) packs keep
