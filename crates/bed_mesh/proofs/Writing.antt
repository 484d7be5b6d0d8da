-- Lines that are written one behind the other.
use Rattle.std.proofs.Common.{◌≡◌, ◌∙◌, ℕ, ◌+◌, ◌≤◌, ◌++◌, List, [], ◌∷◌, length, length-append, refl, ap, sym, subst, arith, append_assoc, append-nil, Ok, Err}
use Rattle.std.specs.Prelude.{Result, ℤ, unsigned_abs}
use Rattle.std.proofs.Common.{◌<◌, ◌^◌}
use Rattle.std.proofs.lemmas.Int.{fits_signed_from_abs, to_z-of_z}
use mir.Syntax.{w64}
use mir.Val.{to_z, of_z}
use Rattle.bed_mesh.specs.Numbers.{word}
use Rattle.plan_types.specs.declared.cause.LineKind.{LineKind}
use Rattle.gcode_state.specs.declared.state.State.{State}
use Rattle.gcode_state.specs.declared.state.Action.{Action}
use Rattle.gcode_program.specs.Readings.{line_result}
use Rattle.bed_mesh.specs.Files.{accepted_state, on_accepted}
use Rattle.std.specs.List.{All}
use Rattle.std.proofs.Common.{suc, ◌*◌}
use Rattle.std.specs.Prelude.{pos, ◌-ℤ◌}
use Rattle.std.proofs.lemmas.Int.{ints}
use Rattle.plan_types.specs.declared.plan.Move.{Move}
use Rattle.plan_types.specs.Valid.{IsValidMove}
use Rattle.plan_types.specs.Sections.{IsReachable}
use Rattle.bed_mesh.specs.Cuts.{IsOnTheWay}
use Rattle.bed_mesh.specs.declared.back.Halt.{Halt}
use Rattle.bed_mesh.specs.declared.back.Halt.TheVariants.{Memory, Refused}
use Rattle.bed_mesh.specs.declared.mesh.Mesh.{Mesh}
use Rattle.bed_mesh.specs.BentLines.{at, move_line, move_lines, joined_lines}
use Rattle.bed_mesh.specs.Room.{AreWritten, HasLineRoom, IsNearPlace, IsWhy}

-- one line, and those behind it
pub then_accepted : (start : ℕ) (s t : State) (line : List ℕ) (lines : List (List ℕ)) → accepted_state start s (line ∷ []) ≡ Ok t → accepted_state start s (line ∷ lines) ≡ accepted_state (start + (length line + 1)) t lines
then_accepted start s t line lines h = go (line_result _ start s line) h
  where
    go : (r : Result (State × Action) LineKind) → on_accepted r (λ u. Ok u) ≡ Ok t → on_accepted r (λ u. accepted_state (start + (length line + 1)) u lines) ≡ accepted_state (start + (length line + 1)) t lines
    go (Ok next) e = (let f : next.0 ≡ t = cc in ap (λ u. accepted_state (start + (length line + 1)) u lines) f)
    go (Err kind) e = absurd cc

pub near_same : (z : ℤ) → unsigned_abs z < 2 ^ 63 → to_z w64 (of_z w64 z) ≡ z
near_same z h = to_z-of_z w64 z (fits_signed_from_abs w64 z h)

pub five_words : (t t1 t2 t3 t4 t5 a b c d e : List ℕ) (v w x y z v' w' x' y' z' : ℤ) → t1 ≡ t ++ word a v' → t2 ≡ t1 ++ word b w' → t3 ≡ t2 ++ word c x' → t4 ≡ t3 ++ word d y' → t5 ≡ t4 ++ word e z'
    → v' ≡ v → w' ≡ w → x' ≡ x → y' ≡ y → z' ≡ z → t5 ≡ t ++ (word a v ++ (word b w ++ (word c x ++ (word d y ++ word e z))))
five_words t t1 t2 t3 t4 t5 a b c d e v w x y z v' w' x' y' z' f g h i j k l m n o =
    rw (j, i, h, g, f, k, l, m, n, o) (append_assoc _ (word d y) (word e z) ∙ append_assoc _ (word c x) (word d y ++ word e z) ∙ append_assoc _ (word b w) (word c x ++ (word d y ++ word e z)) ∙ append_assoc t (word a v) (word b w ++ (word c x ++ (word d y ++ word e z))))

size_of : (text text' line : List ℕ) → text' ≡ text ++ joined_lines (line ∷ []) → length text' ≡ length text + (length line + 1)
size_of text text' line e = ap length e ∙ length-append text (line ++ 10 ∷ []) ∙ ap (λ (n : ℕ). length text + n) (length-append line (10 ∷ []))

-- one line more was written
pub line_more : (start : ℕ) (s t : State) (text text' line : List ℕ) (lines : List (List ℕ)) (all : Result State LineKind) → AreWritten start s text (line ∷ []) t text' → accepted_state (start + length text) s (line ∷ lines) ≡ all
    → accepted_state (start + length text') t lines ≡ all
line_more start s t text text' line lines all w is =
    let n = size_of text text' line w.text in
    let e : start + length text' ≡ start + length text + (length line + 1) = omega arith in
    rw e (sym (then_accepted (start + length text) s t line lines w.accepted_is) ∙ is)

pub text_more : (text text' line all : List ℕ) (lines : List (List ℕ)) → text' ≡ text ++ joined_lines (line ∷ []) → text ++ joined_lines (line ∷ lines) ≡ all → text' ++ joined_lines lines ≡ all
text_more text text' line all lines e is = rw e (append_assoc text (line ++ 10 ∷ []) (joined_lines lines) ∙ ap (λ (l : List ℕ). text ++ l) (append_assoc line (10 ∷ []) (joined_lines lines)) ∙ is)

-- the places of a list, one by one
pub near_first : (places others : List (List ℤ)) (place : List ℤ) → places ≡ place ∷ others → All IsNearPlace places → IsNearPlace place
near_first places others place e all = let h : All IsNearPlace (place ∷ others) = subst (λ (l : List (List ℤ)). All IsNearPlace l) e all in h 0 [] (omega arith)

pub near_rest : (places others : List (List ℤ)) (place : List ℤ) → places ≡ place ∷ others → All IsNearPlace places → All IsNearPlace others
near_rest places others place e all = let h : All IsNearPlace (place ∷ others) = subst (λ (l : List (List ℤ)). All IsNearPlace l) e all in λ k d less. h (suc k) d (omega arith)

pub ends_more : (t : Mesh) (speed start : ℕ) (s : State) (from place : List ℤ) (places others : List (List ℤ)) (all : Result State LineKind) → places ≡ place ∷ others → accepted_state start s (move_lines t speed from places) ≡ all
    → accepted_state start s (move_line t speed from place ∷ move_lines t speed place others) ≡ all
ends_more t speed start s from place places others all e is = ap (λ (l : List (List ℤ)). accepted_state start s (move_lines t speed from l)) (sym e) ∙ is

pub texts_more : (t : Mesh) (speed : ℕ) (text : List ℕ) (at_from at_place : List ℤ) (places others : List (List ℤ)) (all : List ℕ) → places ≡ at_place ∷ others → text ++ joined_lines (move_lines t speed at_from places) ≡ all
    → text ++ joined_lines (move_line t speed at_from at_place ∷ move_lines t speed at_place others) ≡ all
texts_more t speed text at_from at_place places others all e is = ap (λ (l : List (List ℤ)). text ++ joined_lines (move_lines t speed at_from l)) (sym e) ∙ is

-- a place on the way of a move is near
within : (b place from to : ℤ) (most : ℕ) → unsigned_abs (place -ℤ from) ≤ unsigned_abs (to -ℤ from) → unsigned_abs from ≤ most → unsigned_abs to ≤ most → unsigned_abs place ≤ 3 * most
within b place from to most h f t = omega (arith, ints)

pub near_way : (m : Move) (place : List ℤ) → IsValidMove m → IsReachable m → IsOnTheWay m place → IsNearPlace place
near_way m place v r w = record {
  x = bounded 0 (omega arith);
  y = bounded 1 (omega arith);
  z = bounded 2 (omega arith);
  e = (let b = within (pos 0) (at place 3) (at m.from 3) (at m.to 3) (2 ^ 60) (w.near 3 (omega arith)) (v.from_near 3 (omega arith)) (v.to_near 3 (omega arith)) in
      let c = v.e_change in let d = w.near 3 (omega arith) in let f = v.from_near 3 (omega arith) in far (at place 3) (at m.from 3) _ d (omega arith) f);
}
  where
    far : (p f : ℤ) (most : ℕ) → unsigned_abs (p -ℤ f) ≤ most → most ≤ 2 ^ 60 → unsigned_abs f ≤ 2 ^ 60 → unsigned_abs p ≤ 2 ^ 61
    far p f most a b c = omega (arith, ints)

    bounded : (k : ℕ) → k < 3 → unsigned_abs (at place k) ≤ 2 ^ 40
    bounded k h =
        let b = within (pos 0) (at place k) (at m.from k) (at m.to k) 500_000_000 (w.near k (omega arith)) (r.from_within k h) (r.to_within k h) in
        omega arith

pub near_ways : (m : Move) (places : List (List ℤ)) → IsValidMove m → IsReachable m → All (IsOnTheWay m) places → All IsNearPlace places
near_ways m places v r all = λ k d h. near_way m _ v r (all k d h)

-- two lots of lines, one behind the other
pub both_ok : (a b : List (List ℕ)) (n : ℕ) (s t : State) → accepted_state n s a ≡ Ok t → accepted_state n s (a ++ b) ≡ accepted_state (n + length (joined_lines a)) t b
both_ok [] b n s t e = let f : s ≡ t = cc in let g : n + 0 ≡ n = omega arith in rw (g, f) refl
both_ok (line ∷ a) b n s t e =
    let size : n + length (line ++ 10 ∷ joined_lines a) ≡ n + (length line + 1) + length (joined_lines a) = (let l = length-append line (10 ∷ joined_lines a) in omega arith) in
    rw size (go (line_result _ n s line) e (λ u f. both_ok a b (n + (length line + 1)) u t f))
  where
    go : (r : Result (State × Action) LineKind) → on_accepted r (λ u. accepted_state (n + (length line + 1)) u a) ≡ Ok t
        → ((u : State) → accepted_state (n + (length line + 1)) u a ≡ Ok t → accepted_state (n + (length line + 1)) u (a ++ b) ≡ accepted_state (n + (length line + 1) + length (joined_lines a)) t b)
        → on_accepted r (λ u. accepted_state (n + (length line + 1)) u (a ++ b)) ≡ accepted_state (n + (length line + 1) + length (joined_lines a)) t b
    go (Ok next) f more = more next.0 f
    go (Err kind) f more = absurd cc

pub both_err : (a b : List (List ℕ)) (n : ℕ) (s : State) (kind : LineKind) → accepted_state n s a ≡ Err kind → accepted_state n s (a ++ b) ≡ Err kind
both_err [] b n s kind e = absurd cc
both_err (line ∷ a) b n s kind e = go (line_result _ n s line) e (λ u f. both_err a b (n + (length line + 1)) u kind f)
  where
    go : (r : Result (State × Action) LineKind) → on_accepted r (λ u. accepted_state (n + (length line + 1)) u a) ≡ Err kind
        → ((u : State) → accepted_state (n + (length line + 1)) u a ≡ Err kind → accepted_state (n + (length line + 1)) u (a ++ b) ≡ Err kind)
        → on_accepted r (λ u. accepted_state (n + (length line + 1)) u (a ++ b)) ≡ Err kind
    go (Ok next) f more = more next.0 f
    go (Err other) f more = f

pub texts_both : (a b : List (List ℕ)) → joined_lines (a ++ b) ≡ joined_lines a ++ joined_lines b
texts_both [] b = refl
texts_both (line ∷ a) b = ap (λ (l : List ℕ). line ++ 10 ∷ l) (texts_both a b) ∙ sym (append_assoc line (10 ∷ joined_lines a) (joined_lines b))

at_end : (start : ℕ) (text text' : List ℕ) (a : List (List ℕ)) → text' ≡ text ++ joined_lines a → start + length text' ≡ start + length text + length (joined_lines a)
at_end start text text' a e = let l = ap length e ∙ length-append text (joined_lines a) in omega arith

pub written_both : (start : ℕ) (s t u : State) (text mid end : List ℕ) (a b : List (List ℕ)) → AreWritten start s text a t mid → AreWritten start t mid b u end → AreWritten start s text (a ++ b) u end
written_both start s t u text mid end a b one two = record {
  accepted_is = both_ok a b (start + length text) s t one.accepted_is ∙ ap (λ (n : ℕ). accepted_state n t b) (sym (at_end start text mid a one.text)) ∙ two.accepted_is;
  text = two.text ∙ ap (λ (l : List ℕ). l ++ joined_lines b) one.text ∙ append_assoc text (joined_lines a) (joined_lines b) ∙ ap (λ (l : List ℕ). text ++ l) (sym (texts_both a b));
  room = two.room;
}

pub why_first : (start : ℕ) (s : State) (text : List ℕ) (a b : List (List ℕ)) (h : Halt) → IsWhy h (accepted_state (start + length text) s a) → IsWhy h (accepted_state (start + length text) s (a ++ b))
why_first start s text a b Memory w = tt
why_first start s text a b (Refused kind) w = both_err a b (start + length text) s kind w

pub why_second : (start : ℕ) (s t : State) (text mid : List ℕ) (a b : List (List ℕ)) (h : Halt) → AreWritten start s text a t mid → IsWhy h (accepted_state (start + length mid) t b) → IsWhy h (accepted_state (start + length text) s (a ++ b))
why_second start s t text mid a b Memory one w = tt
why_second start s t text mid a b (Refused kind) one w = both_ok a b (start + length text) s t one.accepted_is ∙ ap (λ (n : ℕ). accepted_state n t b) (sym (at_end start text mid a one.text)) ∙ w
