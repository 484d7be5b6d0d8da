-- The time up to which the queue of an output was run.
use Rattle.std.proofs.Common.{◌≡◌, ℕ, Bool, true, false, cond, List, [], ◌∷◌, Option, Some, None, refl, sym, ap, ◌∙◌}
use Rattle.std.specs.Prelude.{nat_lt, nat_le, length, if◌then◌else◌, Result, Ok, Err}
use Rattle.plan_types.specs.Board.{nearest}
use Rattle.digital_out.specs.declared.want.Want.{Want}
use Rattle.digital_out.specs.declared.queue.OutRefusal.{OutRefusal}
use Rattle.digital_out.specs.Outputs.{Output, Turn, output_behind, comes_late, is_too_close, miss_turn, missed_of, pushed, pushed_at, turn_by, want_turn, with_time}

miss_at : (until at : ℕ) (q : Output) (b : Bool) → nat_lt at until ≡ b → (miss_turn until q (Some at)).left.time ≡ q.time
miss_at until at q true is = rw is refl
miss_at until at q false is = rw is refl

miss_time : (until : ℕ) (q : Output) (miss : Option ℕ) → (miss_turn until q miss).left.time ≡ q.time
miss_time until q None = refl
miss_time until q (Some at) = miss_at until at q (nat_lt at until) refl

want_time : (until : ℕ) (q : Output) (w : Want) (ws : List Want) (b : Bool) → nat_lt w.tick until ≡ b → (want_turn until q w ws).left.time ≡ q.time
want_time until q w ws true is = rw is refl
want_time until q w ws false is = rw is refl

next_time : (until : ℕ) (q : Output) (miss : Option ℕ) (w : Want) (ws : List Want) (b : Bool) → comes_late miss w.tick ≡ b → (turn_by until q miss (w ∷ ws)).left.time ≡ q.time
next_time until q miss w ws true is = rw is (miss_time until q miss)
next_time until q miss w ws false is = rw is (want_time until q w ws (nat_lt w.tick until) refl)

turn_time : (until : ℕ) (q : Output) (miss : Option ℕ) (pending : List Want) → (turn_by until q miss pending).left.time ≡ q.time
turn_time until q miss [] = miss_time until q miss
turn_time until q miss (w ∷ ws) = next_time until q miss w ws (comes_late miss w.tick) refl

cond_time : (b : Bool) (x y : Turn) (t : ℕ) → x.left.time ≡ t → y.left.time ≡ t → (if b then x else y).left.time ≡ t
cond_time true x y t one other = one
cond_time false x y t one other = other

-- a queue that is run to a tick has that time
pub behind_time : (until : ℕ) (q : Output) → (output_behind until q).time ≡ until
behind_time until q =
    cond_time q.missed (record { event = None; left = with_time q until }) (turn_by until (with_time q until) (missed_of q.max q.level q.last) q.pending) until refl
    (turn_time until (with_time q until) (missed_of q.max q.level q.last) q.pending)

abbrev time_of : ℕ → Result Output OutRefusal → ℕ
time_of other (Ok q) = q.time
time_of other (Err e) = other

close_time : (q : Output) (now at : ℕ) (level b : Bool) → is_too_close q.pending now at ≡ b → nat_le q.slots (length q.pending) ≡ false → time_of now (pushed_at q now at level) ≡ now
close_time q now at level true is room = rw (room, is) refl
close_time q now at level false is room = rw (room, is) refl

room_time : (q : Output) (now at : ℕ) (level b : Bool) → nat_le q.slots (length q.pending) ≡ b → time_of now (pushed_at q now at level) ≡ now
room_time q now at level true is = rw is refl
room_time q now at level false is = close_time q now at level (is_too_close q.pending now at) refl is

cond_out : (b : Bool) (x y : Result Output OutRefusal) (now : ℕ) → time_of now x ≡ now → time_of now y ≡ now → time_of now (if b then x else y) ≡ now
cond_out true x y now one other = one
cond_out false x y now one other = other

put_time : (q : Output) (now clock : ℕ) (level : Bool) → time_of now (pushed q now clock level) ≡ now
put_time q now clock level =
    cond_out q.missed (Ok (with_time q now)) (pushed_at q now (nearest now clock) level) now refl
    (room_time q now (nearest now clock) level (nat_le q.slots (length q.pending)) refl)

-- a queue that takes a command has the time at which that comes
pub pushed_time : (q next : Output) (now clock : ℕ) (level : Bool) → pushed q now clock level ≡ Ok next → next.time ≡ now
pushed_time q next now clock level h = sym (ap (λ (r : Result Output OutRefusal). time_of now r) h) ∙ put_time q now clock level
