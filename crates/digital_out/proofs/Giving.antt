-- Commands that are given to a queue one by one.
use Rattle.std.proofs.Common.{◌≡◌, ℕ, zero, suc, ◌+◌, ◌-◌, ◌%◌, ◌<◌, ◌≤◌, ◌^◌, Bool, true, false, List, [], ◌∷◌, ◌++◌, All, Ok, length, take, drop, get_or, refl, sym, ap, subst, ◌∙◌, arith, append_assoc, append-nil, length-append}
use Rattle.std.specs.Prelude.{nat_le, nat_lt, slice_get}
use Rattle.std.proofs.Math.Seq.{get_or-append_right}
use Rattle.std.proofs.lemmas.Bool.Decides.{nat_tests}
use Rattle.std.proofs.lemmas.List.{drop_all, drop_more, get_or-take, length-take-le, take_all, take_more}
use Rattle.std.proofs.lemmas.List.Elements.{All-cons, All-head, All-nil, All-tail}
use Rattle.board_step.proofs.Whole.{nearest_is}
use Rattle.circular_buffer.specs.Buffer.{last_item}
use Rattle.plan_types.specs.Board.{nearest}
use Rattle.plan_types.specs.Clock.{tick_limit}
use Rattle.digital_out.specs.declared.want.Want.{Want}
use Rattle.digital_out.specs.Carried.{AreFrom, AreInTime, BeginsFrom, CanCarry, ready_at, room_at}
use Rattle.digital_out.specs.Outputs.{Output, not_behind, pushed, with_want}
use Rattle.digital_out.specs.Rising.{WantsRiseFrom, no_want}
use Rattle.digital_out.proofs.Keeping.{rise_behind}

-- commands of which the first ones, so many, were given to a queue up to a time
pub record GivenSofar (commands : List Want) (longest : ℕ) (q : Output) (made : List Want) (i now : ℕ) : Type 0 where
  pub well : q.missed ≡ false
  pub longest_is : q.max ≡ longest
  pub slots : q.slots ≡ 16
  pub time : q.time ≤ now
  pub small : now < tick_limit
  pub all : made ++ q.pending ≡ take i commands
  pub in_time : AreInTime longest q.level q.last (q.pending ++ drop i commands)
  pub begins : BeginsFrom now (drop i commands)
  pub upto : now ≤ (get_or commands (i - 1) no_want).tick

rise_at_least : (low : ℕ) (ws : List Want) (j : ℕ) (d : Want) → WantsRiseFrom low ws → j < length ws → low ≤ (get_or ws j d).tick
rise_at_least low [] j d h lt = absurd (omega arith)
rise_at_least low (w ∷ ws) zero d h lt = h.0
rise_at_least low (w ∷ ws) (suc j) d h lt = let later = rise_at_least (w.tick + 1) ws j d h.1 (omega (arith, lt)) in let first = h.0 in omega (arith, later, first)

pub rise_pair : (low : ℕ) (ws : List Want) (i j : ℕ) (d : Want) → WantsRiseFrom low ws → i < j → j < length ws → (get_or ws i d).tick < (get_or ws j d).tick
rise_pair low [] i j d h lt inside = absurd (omega arith)
rise_pair low (w ∷ ws) i zero d h lt inside = absurd (omega arith)
rise_pair low (w ∷ ws) zero (suc j) d h lt inside = let later = rise_at_least (w.tick + 1) ws j d h.1 (omega (arith, inside)) in omega (arith, later)
rise_pair low (w ∷ ws) (suc i) (suc j) d h lt inside = rise_pair (w.tick + 1) ws i j d h.1 (omega (arith, lt)) (omega (arith, inside))

-- when a command is given to its queue
pub record IsReadyAt (commands : List Want) (i now lead r : ℕ) : Type 0 where
  pub later : now ≤ r
  pub before : r ≤ (get_or commands i no_want).tick
  pub near : (get_or commands i no_want).tick ≤ r + lead
  pub room : 16 ≤ i → (get_or commands (i - 16) no_want).tick < r

ready_by : (commands : List Want) (i now lead : ℕ) (b : Bool) → nat_lt i 16 ≡ b → i < length commands → WantsRiseFrom 0 commands → now ≤ (get_or commands i no_want).tick → IsReadyAt commands i now lead (ready_at commands i now lead)
ready_by commands i now lead true is lt rise le =
    let few : i < 16 = grind (arith, nat_tests) in
    let room : room_at commands i ≡ 0 = rw is refl in
    record { later = omega arith; before = omega (arith, room, le); near = omega arith; room = λ many. absurd (omega (arith, few, many)) }
ready_by commands i now lead false is lt rise le =
    let many : 16 ≤ i = grind (arith, nat_tests) in
    let room : room_at commands i ≡ (get_or commands (i - 16) no_want).tick + 1 = rw is refl in
    let pair = rise_pair 0 commands (i - 16) i no_want rise (omega (arith, many)) lt in
    record { later = omega arith; before = omega (arith, room, le, pair); near = omega arith; room = λ h. omega (arith, room) }

pub is_ready : (commands : List Want) (i now lead : ℕ) → i < length commands → WantsRiseFrom 0 commands → now ≤ (get_or commands i no_want).tick → IsReadyAt commands i now lead (ready_at commands i now lead)
is_ready commands i now lead lt rise le = ready_by commands i now lead (nat_lt i 16) refl lt rise le

begins_first : (now : ℕ) (ws : List Want) (w : Want) (rest : List Want) → ws ≡ w ∷ rest → BeginsFrom now ws → now ≤ w.tick
begins_first now ws w rest is h = rw is at h

begins_from : (now low : ℕ) (ws : List Want) → now ≤ low → WantsRiseFrom low ws → BeginsFrom now ws
begins_from now low [] le h = tt
begins_from now low (w ∷ ws) le h = let first = h.0 in omega (arith, le, first)

-- the time of the next command is not before now
pub next_time : (commands : List Want) (longest : ℕ) (q : Output) (made : List Want) (i now : ℕ) → i < length commands → GivenSofar commands longest q made i now → now ≤ (get_or commands i no_want).tick
next_time commands longest q made i now lt so = begins_first now (drop i commands) (get_or commands i no_want) (drop (i + 1) commands) (drop_more commands i no_want lt) so.begins

rise_back : (low : ℕ) (xs ys : List Want) → WantsRiseFrom low (xs ++ ys) → WantsRiseFrom 0 ys
rise_back low [] [] h = tt
rise_back low [] (y ∷ ys) h = (omega arith, h.1)
rise_back low (x ∷ xs) ys h = rise_back (x.tick + 1) xs ys h.1

rise_front : (low n : ℕ) (ws : List Want) → WantsRiseFrom low ws → WantsRiseFrom low (take n ws)
rise_front low zero ws h = tt
rise_front low (suc n) [] h = tt
rise_front low (suc n) (w ∷ ws) h = (h.0, rise_front (w.tick + 1) n ws h.1)

pub pending_rise : (commands made pending : List Want) (i : ℕ) → WantsRiseFrom 0 commands → made ++ pending ≡ take i commands → WantsRiseFrom 0 pending
pending_rise commands made pending i rise is = rise_back 0 made pending (subst (λ (ws : List Want). WantsRiseFrom 0 ws) (sym is) (rise_front 0 i commands rise))

below_last : (low : ℕ) (ps : List Want) (w : Want) → WantsRiseFrom low (ps ++ w ∷ []) → All (λ p. p.tick < w.tick) ps
below_last low [] w h = All-nil (λ (p : Want). p.tick < w.tick)
below_last low (p ∷ ps) w h =
    let later = below_last (p.tick + 1) ps w h.1 in
    let Within : Want → Type 0 = λ q. q.tick < w.tick in
    All-cons Within p ps (first p ps h.1) later
  where
    first : (p : Want) (ps : List Want) → WantsRiseFrom (p.tick + 1) (ps ++ w ∷ []) → p.tick < w.tick
    first p [] h = let x = h.0 in omega (arith, x)
    first p (q ∷ qs) h = let rest = rise_at_least (p.tick + 1) (q ∷ qs ++ w ∷ []) (length (q ∷ qs)) w h (let n = length-append (q ∷ qs) (w ∷ []) in omega (arith, n)) in
        let is : get_or (q ∷ qs ++ w ∷ []) (length (q ∷ qs)) w ≡ w = Rattle.std.proofs.Math.Seq.get_or-append_seam (q ∷ qs) w [] w in
        omega (arith, rest, ap (λ (v : Want). v.tick) is)

not_behind_last : (top : ℕ) (p : Want) (ps : List Want) → All (λ q. q.tick < top) (p ∷ ps) → not_behind (slice_get (p ∷ ps) (length ps)) top ≡ false
not_behind_last top p [] h = let Below : Want → Type 0 = λ q. q.tick < top in let lt = All-head Below p [] h in grind (arith, nat_tests)
not_behind_last top p (q ∷ qs) h = let Below : Want → Type 0 = λ q. q.tick < top in not_behind_last top q qs (All-tail Below p (q ∷ qs) h)

not_behind_any : (top : ℕ) (ps : List Want) → All (λ q. q.tick < top) ps → not_behind (last_item ps) top ≡ false
not_behind_any top [] h = refl
not_behind_any top (p ∷ ps) h = let e : length (p ∷ ps) - 1 ≡ length ps = omega arith in subst (λ (n : ℕ). not_behind (slice_get (p ∷ ps) n) top ≡ false) (sym e) (not_behind_last top p ps h)

-- at most 15 commands pend where the next one is given
few_pend : (commands made pending : List Want) (i r : ℕ) → i < length commands → made ++ pending ≡ take i commands → AreFrom r pending → (16 ≤ i → (get_or commands (i - 16) no_want).tick < r) → length pending < 16
few_pend commands made pending i r lt is from room = by (nat_lt (length pending) 16) refl
  where
    by : (b : Bool) → nat_lt (length pending) 16 ≡ b → length pending < 16
    by true e = grind (arith, nat_tests)
    by false e =
        let many : 16 ≤ length pending = grind (arith, nat_tests) in
        let count : length made + length pending ≡ i = sym (length-append made pending) ∙ ap length is ∙ length-take-le i commands (omega (arith, lt)) in
        let place : get_or (made ++ pending) (i - 16) no_want ≡ get_or pending (i - 16 - length made) no_want = get_or-append_right made pending (i - 16) no_want (omega (arith, count, many)) in
        let same : get_or pending (i - 16 - length made) no_want ≡ get_or commands (i - 16) no_want = sym place ∙ ap (λ (ws : List Want). get_or ws (i - 16) no_want) is ∙ get_or-take i commands (i - 16) no_want (omega (arith, count, many)) in
        let late = from (i - 16 - length made) no_want (omega (arith, count, many)) in
        let soon = room (omega (arith, count, many)) in
        absurd (omega (arith, late, soon, ap (λ (w : Want). w.tick) same))

-- the next command is accepted
pub accepted_next : (commands made : List Want) (q : Output) (i now lead r clock : ℕ) → i < length commands → WantsRiseFrom 0 commands → q.missed ≡ false → q.slots ≡ 16 → made ++ q.pending ≡ take i commands → AreFrom r q.pending → IsReadyAt commands i now lead r
    → lead ≤ 50_000_000 → clock ≡ (get_or commands i no_want).tick % 2 ^ 32 → pushed q r clock (get_or commands i no_want).on ≡ Ok (with_want q r (get_or commands i no_want))
accepted_next commands made q i now lead r clock lt rise well slots all from ready short is =
    let w = get_or commands i no_want in
    let before = ready.before in
    let close = ready.near in
    let at : nearest r clock ≡ w.tick = nearest_is r clock w.tick (omega (arith, before), omega (arith, close, short)) (omega (arith, is)) in
    let few = few_pend commands made q.pending i r lt all from ready.room in
    let room : nat_le q.slots (length q.pending) ≡ false = grind (arith, nat_tests) in
    let whole : WantsRiseFrom 0 (made ++ (q.pending ++ w ∷ [])) = subst (λ (ws : List Want). WantsRiseFrom 0 ws) (take_more commands i no_want lt ∙ ap (λ (ws : List Want). ws ++ w ∷ []) (sym all) ∙ append_assoc made q.pending (w ∷ [])) (rise_front 0 (i + 1) commands rise) in
    let below = below_last 0 q.pending w (rise_back 0 made (q.pending ++ w ∷ []) whole) in
    let late : nat_lt w.tick r ≡ false = grind (arith, nat_tests) in
    rw (well, at, room, late, not_behind_any w.tick q.pending below) refl

-- one command more was given
pub given_more : (commands made new : List Want) (longest : ℕ) (q mid next : Output) (i now lead r : ℕ) → i < length commands → CanCarry longest commands → GivenSofar commands longest q made i now → IsReadyAt commands i now lead r
    → new ++ mid.pending ≡ made ++ q.pending → mid.missed ≡ false → mid.slots ≡ q.slots → mid.max ≡ q.max → ((more : List Want) → AreInTime q.max q.level q.last (q.pending ++ more) → AreInTime q.max mid.level mid.last (mid.pending ++ more))
    → next ≡ with_want mid r (get_or commands i no_want) → GivenSofar commands longest next new (i + 1) r
given_more commands made new longest q mid next i now lead r lt can so ready all well slots same steady is =
    let w = get_or commands i no_want in
    let split = drop_more commands i no_want lt in
    let behind = rise_behind 0 commands i no_want lt can.rise in
    let before = ready.before in
    let small = can.small i no_want lt in
    let here : AreInTime longest mid.level mid.last (mid.pending ++ drop i commands) =
    subst (λ (n : ℕ). AreInTime n mid.level mid.last (mid.pending ++ drop i commands)) so.longest_is (steady (drop i commands) (subst (λ (n : ℕ). AreInTime n q.level q.last (q.pending ++ drop i commands)) (sym so.longest_is) so.in_time)) in
    let joined : mid.pending ++ drop i commands ≡ (mid.pending ++ w ∷ []) ++ drop (i + 1) commands = ap (λ (ws : List Want). mid.pending ++ ws) split ∙ sym (append_assoc mid.pending (w ∷ []) (drop (i + 1) commands)) in
    let place : i + 1 - 1 ≡ i = omega arith in
    rw is (record {
      well = well;
      longest_is = same ∙ so.longest_is;
      slots = slots ∙ so.slots;
      time = omega arith;
      small = omega (arith, before, small);
      all = sym (append_assoc new mid.pending (w ∷ [])) ∙ ap (λ (ws : List Want). ws ++ w ∷ []) (all ∙ so.all) ∙ sym (take_more commands i no_want lt);
      in_time = subst (λ (ws : List Want). AreInTime longest mid.level mid.last ws) joined here;
      begins = begins_from r (w.tick + 1) (drop (i + 1) commands) (omega (arith, before)) behind;
      upto = subst (λ (n : ℕ). r ≤ (get_or commands n no_want).tick) (sym place) before;
    })

-- where all were given, and what pends stands behind the last one, all were carried out
pub all_carried : (commands made pending : List Want) → 0 < length commands → made ++ pending ≡ commands → AreFrom ((get_or commands (length commands - 1) no_want).tick + 1) pending → made ≡ commands
all_carried commands made [] some is from = sym (append-nil made) ∙ is
all_carried commands made (p ∷ ps) some is from =
    let count : length made + length (p ∷ ps) ≡ length commands = sym (length-append made (p ∷ ps)) ∙ ap length is in
    let place : get_or (made ++ p ∷ ps) (length commands - 1) no_want ≡ get_or (p ∷ ps) (length commands - 1 - length made) no_want = get_or-append_right made (p ∷ ps) (length commands - 1) no_want (omega (arith, count)) in
    let same = ap (λ (ws : List Want). get_or ws (length commands - 1) no_want) is in
    let late = from (length commands - 1 - length made) no_want (omega (arith, count)) in
    absurd (omega (arith, late, ap (λ (w : Want). w.tick) (sym place ∙ same)))

pub safe_next : (commands made : List Want) (longest : ℕ) (q : Output) (i now lead r : ℕ) → i < length commands → CanCarry longest commands → GivenSofar commands longest q made i now → IsReadyAt commands i now lead r
    → (more : List Want) × AreInTime q.max q.level q.last (q.pending ++ more) × BeginsFrom r more
safe_next commands made longest q i now lead r lt can so ready =
    let w = get_or commands i no_want in
    let begins : BeginsFrom r (w ∷ drop (i + 1) commands) = ready.before in
    (drop i commands, subst (λ (n : ℕ). AreInTime n q.level q.last (q.pending ++ drop i commands)) (sym so.longest_is) so.in_time, subst (λ (ws : List Want). BeginsFrom r ws) (sym (drop_more commands i no_want lt)) begins)

pub safe_last : (commands made : List Want) (longest : ℕ) (q : Output) (i now until : ℕ) → length commands ≤ i → GivenSofar commands longest q made i now → (more : List Want) × AreInTime q.max q.level q.last (q.pending ++ more) × BeginsFrom until more
safe_last commands made longest q i now until over so =
    let none = drop_all i commands over in
    ([], subst (λ (n : ℕ). AreInTime n q.level q.last (q.pending ++ [])) (sym so.longest_is) (subst (λ (ws : List Want). AreInTime longest q.level q.last (q.pending ++ ws)) none so.in_time), tt)

-- all commands are taken
pub all_taken : (commands made : List Want) (longest : ℕ) (q : Output) (i now : ℕ) → length commands ≤ i → GivenSofar commands longest q made i now → made ++ q.pending ≡ commands
all_taken commands made longest q i now over so = so.all ∙ take_all i commands over

-- all were carried out
pub finished : (commands made pending : List Want) (until : ℕ) → (0 < length commands → until ≡ (get_or commands (length commands - 1) no_want).tick + 1) → made ++ pending ≡ commands → AreFrom until pending → made ≡ commands
finished [] [] pending until end is from = refl
finished [] (w ∷ made) pending until end is from = absurd (let n = ap length is in omega (arith, n))
finished (c ∷ commands) made pending until end is from =
    let some : 0 < length (c ∷ commands) = omega arith in
    all_carried (c ∷ commands) made pending some is (subst (λ (n : ℕ). AreFrom n pending) (end some) from)

-- when the next command is given
pub ready_is : (commands made : List Want) (longest : ℕ) (q : Output) (i now lead r : ℕ) → r ≡ ready_at commands i now lead → i < length commands → CanCarry longest commands → GivenSofar commands longest q made i now → IsReadyAt commands i now lead r
ready_is commands made longest q i now lead r is lt can so = subst (λ (n : ℕ). IsReadyAt commands i now lead n) (sym is) (is_ready commands i now lead lt can.rise (next_time commands longest q made i now lt so))
