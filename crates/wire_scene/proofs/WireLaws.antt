-- What holds of a line after every list of steps.
use Rattle.std.proofs.Common.{◌≡◌, ℕ, zero, suc, ◌+◌, ◌<◌, ◌≤◌, List, [], ◌∷◌, ◌++◌, length, take, map, max, refl, ap, sym, ◌∙◌, arith, inl, inr, true, false, Bool, append_assoc, append-nil, subst}
use Rattle.std.specs.Prelude.{Option, None, Some, if◌then◌else◌}
use Rattle.std.proofs.lemmas.Bool.Decides.{leb_tells, eqb_tells}
use Rattle.std.proofs.Math.Seq.{take-append_seam}
use Rattle.std.proofs.lemmas.List.{map-append}
use Rattle.wire_scene.specs.declared.scene.Entry.{Entry}
use Rattle.wire_scene.specs.declared.scene.Deed.{Deed}
use Rattle.wire_scene.specs.declared.scene.Deed.TheVariants.{Drop, Repeat, Delay, Garble}
use Rattle.wire_scene.specs.declared.wire.Fate.{Fate}
use Rattle.wire_scene.specs.declared.wire.Fate.TheVariants.{Lost, Last, Stays, Garbled}
use Rattle.wire_scene.specs.Wire.{Copy, Line, after_due, entries_behind, calm_from, changed, comes_of, connect, connect_if, number_behind, deed_of, delay_of, empty_line, fate_of, is_oldest_due, copies_left, copies_left_by, put_on}
use Rattle.wire_scene.specs.WireRuns.{AreOver, IsInOrder, Step, arrivals, arrives, blocks_put, deeds, deeds_later, greatest_up_to, oldest, own_turns, run_line, so_often, times, times_left, to_come, turn_used, turns_put, turns_used, visits}
use Rattle.block_frame.specs.Spoils.{is_found_out}
use Rattle.wire_scene.specs.WireRuns.Step.{Put, Due, Connect}

-- the number that a line has counted is that of the next block, where there are entries
abbrev pub IsNext : ℕ → ℕ → List Entry → Type 0
IsNext n number [] = Unit {0}
IsNext n number (e ∷ es) = number ≡ n

-- of all entries a line has those for the block n and the ones behind it
pub record Follows (all : List Entry) (n : ℕ) (l : Line) : Type 0 where
  pub same : (m : ℕ) → n ≤ m → deed_of m all ≡ deed_of m l.entries
  pub next : IsNext n l.number l.entries

next_deed : (all : List Entry) (n number : ℕ) (es : List Entry) → ((m : ℕ) → n ≤ m → deed_of m all ≡ deed_of m es) → IsNext n number es → deed_of number es ≡ deed_of n all
next_deed all n number [] same next = sym (same n (omega arith))
next_deed all n number (e ∷ es) same next = ap (λ k. deed_of k (e ∷ es)) next ∙ sym (same n (omega arith))

deed_behind : (n m : ℕ) (es : List Entry) → n < m → deed_of m (entries_behind n es) ≡ deed_of m es
deed_behind n m [] h = refl
deed_behind n m (e ∷ es) h =
    let rest = deed_behind n m es h in
    elim (leb_tells (suc n) e.number) [
      | inl p ↦ elim (eqb_tells e.number m) [ inl q ↦ rw (p.0, q.0) refl | inr q ↦ rw (p.0, q.0) rest ]
      | inr p ↦ elim (eqb_tells e.number m) [ inl q ↦ absurd (omega arith) | inr q ↦ rw (p.0, q.0) rest ]
    ]

same_behind : (all : List Entry) (n number : ℕ) (es : List Entry) → ((m : ℕ) → n ≤ m → deed_of m all ≡ deed_of m es) → IsNext n number es
    → (m : ℕ) → n + 1 ≤ m → deed_of m all ≡ deed_of m (entries_behind number es)
same_behind all n number [] same next m h = same m (omega arith)
same_behind all n number (e ∷ es) same next m h = same m (omega arith) ∙ sym (deed_behind number m (e ∷ es) (omega (arith, next)))

counted_next : (n number : ℕ) (es : List Entry) → number ≡ n → IsNext (n + 1) (number_behind number es) es
counted_next n number [] e = tt
counted_next n number (f ∷ es) e = ap (λ k. k + 1) e

next_behind : (n number : ℕ) (es : List Entry) → IsNext n number es → IsNext (n + 1) (number_behind number (entries_behind number es)) (entries_behind number es)
next_behind n number [] next = tt
next_behind n number (e ∷ es) next = counted_next n number (entries_behind number (e ∷ es)) next

follows_put : (all : List Entry) (n turn : ℕ) (bytes : List ℕ) (l : Line) → Follows all n l → Follows all (n + 1) (put_on l turn bytes)
follows_put all n turn bytes l f = record { same = same_behind all n l.number l.entries f.same f.next; next = next_behind n l.number l.entries f.next }

abbrev after_if : Bool → Line → Line
after_if due l = if due then record l { copies = copies_left l.copies } else l

follows_if : (all : List Entry) (n : ℕ) (due : Bool) (l : Line) → Follows all n l → Follows all n (after_if due l)
follows_if all n true l f = record { same = f.same; next = f.next }
follows_if all n false l f = f

-- what comes from the oldest block now, and what is still to come
by_fate : (fate : Fate) (c : Copy) (cs : List Copy) → arrives fate c.bytes ++ to_come (copies_left_by fate c cs) ≡ so_often (times_left fate) c.bytes ++ to_come cs
by_fate Lost c cs = refl
by_fate Last c cs = refl
by_fate Stays c cs = refl
by_fate Garbled c cs = refl

oldest_comes : (cs : List Copy) → oldest cs ++ to_come (copies_left cs) ≡ to_come cs
oldest_comes [] = refl
oldest_comes (c ∷ cs) = by_fate c.fate c cs

comes_if : (due : Bool) (l : Line) → (if due then oldest l.copies else []) ++ to_come (after_if due l).copies ≡ to_come l.copies
comes_if true l = oldest_comes l.copies
comes_if false l = refl

to_come_append : (cs ds : List Copy) → to_come (cs ++ ds) ≡ to_come cs ++ to_come ds
to_come_append [] ds = refl
to_come_append (c ∷ cs) ds =
    let first = so_often (times_left c.fate) c.bytes in
    ap (λ t. first ++ t) (to_come_append cs ds) ∙ sym (append_assoc first (to_come cs) (to_come ds))

garbled_times : (found : Bool) → times_left (if found then Garbled else Lost) ≡ 0
garbled_times true = refl
garbled_times false = refl

fate_times : (d : Option Deed) (bytes : List ℕ) → times_left (fate_of d bytes) ≡ times d
fate_times None bytes = refl
fate_times (Some Drop) bytes = refl
fate_times (Some Repeat) bytes = refl
fate_times (Some (Delay turns)) bytes = refl
fate_times (Some (Garble at xor)) bytes = garbled_times (is_found_out (changed at xor bytes))

starts_next : (all : List Entry) → IsNext 0 0 all
starts_next [] = tt
starts_next (e ∷ es) = refl

-- what is said of the blocks that are put
abbrev pub Tells : Line → List Step → List (Option Deed) → Type 0
Tells l [] ds = ds ≡ []
Tells l (Put turn bytes ∷ steps) [] = ⊥
Tells l (Put turn bytes ∷ steps) (d ∷ ds) = (deed_of l.number l.entries ≡ d) × Tells (put_on l turn bytes) steps ds
Tells l (Due turn ∷ steps) ds = Tells (after_due l turn) steps ds
Tells l (Connect ∷ steps) ds = Tells (connect l) steps ds

same_phase : (due : Bool) (l : Line) → ((after_if due l).connected ≡ l.connected) × ((after_if due l).later ≡ l.later)
same_phase true l = (refl, refl)
same_phase false l = (refl, refl)

tells_later : (entries : List Entry) (steps : List Step) (n : ℕ) (l : Line) → Follows entries n l → l.connected ≡ true → Tells l steps (deeds_later entries n steps)
tells_later entries [] n l f over = refl
tells_later entries (Put turn bytes ∷ steps) n l f over =
    (next_deed entries n l.number l.entries f.same f.next, tells_later entries steps (n + 1) (put_on l turn bytes) (follows_put entries n turn bytes l f) over)
tells_later entries (Due turn ∷ steps) n l f over =
    let due = is_oldest_due turn l.copies in
    tells_later entries steps n (after_if due l) (follows_if entries n due l f) ((same_phase due l).0 ∙ over)
tells_later entries (Connect ∷ steps) n l f over =
    let same : connect l ≡ l = ap (λ b. connect_if b l) over in
    subst (λ (m : Line). Tells m steps (deeds_later entries n steps)) (sym same) (tells_later entries steps n l f over)

tells_first : (connecting entries : List Entry) (steps : List Step) (n : ℕ) (l : Line) → Follows connecting n l → l.connected ≡ false → l.later ≡ entries → Tells l steps (deeds connecting entries n steps)
tells_first connecting entries [] n l f yet later = refl
tells_first connecting entries (Put turn bytes ∷ steps) n l f yet later =
    (next_deed connecting n l.number l.entries f.same f.next, tells_first connecting entries steps (n + 1) (put_on l turn bytes) (follows_put connecting n turn bytes l f) yet later)
tells_first connecting entries (Due turn ∷ steps) n l f yet later =
    let due = is_oldest_due turn l.copies in
    let phase = same_phase due l in
    tells_first connecting entries steps n (after_if due l) (follows_if connecting n due l f) (phase.0 ∙ yet) (phase.1 ∙ later)
tells_first connecting entries (Connect ∷ steps) n l f yet later =
    let same : connect l ≡ connect_if false l = ap (λ b. connect_if b l) yet in
    let follows : Follows entries 0 (connect_if false l) = record { same = λ m h. ap (deed_of m) (sym later); next = starts_next l.later } in
    subst (λ (m : Line). Tells m steps (deeds_later entries 0 steps)) (sym same) (tells_later entries steps 0 (connect_if false l) follows refl)

pub starts : (connecting entries : List Entry) (steps : List Step) → Tells (empty_line connecting entries) steps (deeds connecting entries 0 steps)
starts connecting entries steps = tells_first connecting entries steps 0 (empty_line connecting entries) (record { same = λ m h. refl; next = starts_next connecting }) refl refl

-- what connecting's end leaves as it is
same_copies : (b : Bool) (l : Line) → (connect_if b l).copies ≡ l.copies
same_copies true l = refl
same_copies false l = refl

same_last_due : (b : Bool) (l : Line) → (connect_if b l).last ≡ l.last
same_last_due true l = refl
same_last_due false l = refl

pub connect_copies : (l : Line) → (connect l).copies ≡ l.copies
connect_copies l = same_copies l.connected l

connect_calm : (b : Bool) (l : Line) → (connect_if b l).calm ≡ l.calm
connect_calm true l = refl
connect_calm false l = refl

pub connect_keeps_calm : (l : Line) → (connect l).calm ≡ l.calm
connect_keeps_calm l = connect_calm l.connected l

to_come_put : (turn : ℕ) (bytes : List ℕ) (l : Line) (d : Option Deed) → deed_of l.number l.entries ≡ d → to_come (put_on l turn bytes).copies ≡ to_come l.copies ++ so_often (times d) bytes
to_come_put turn bytes l e same =
    let d = deed_of l.number l.entries in
    let c : Copy = record { bytes = bytes; comes = comes_of d bytes; due = max l.last (turn + delay_of d); fate = fate_of d bytes } in
    to_come_append l.copies (c ∷ [])
    ∙ ap (λ t. to_come l.copies ++ t) (append-nil (so_often (times_left (fate_of d bytes)) bytes) ∙ ap (λ k. so_often k bytes) (fate_times d bytes) ∙ ap (λ x. so_often (times x) bytes) same)

pub all_come : (steps : List Step) (ds : List (Option Deed)) (l : Line) → Tells l steps ds
    → arrivals steps l ++ to_come (run_line steps l).copies ≡ to_come l.copies ++ visits (blocks_put steps) (map times ds)
all_come [] ds l told = sym (append-nil (to_come l.copies))
all_come (Put turn bytes ∷ steps) [] l told = absurd told
all_come (Put turn bytes ∷ steps) (d ∷ ds) l told =
    let l' = put_on l turn bytes in
    let rest = visits (blocks_put steps) (map times ds) in
    let often = so_often (times d) bytes in
    all_come steps ds l' told.1 ∙ ap (λ t. t ++ rest) (to_come_put turn bytes l d told.0) ∙ append_assoc (to_come l.copies) often rest
all_come (Due turn ∷ steps) ds l told =
    let due = is_oldest_due turn l.copies in
    let l' = after_if due l in
    let rest = visits (blocks_put steps) (map times ds) in
    let now = if due then oldest l.copies else [] in
    append_assoc now (arrivals steps l') (to_come (run_line steps l').copies)
    ∙ ap (λ t. now ++ t) (all_come steps ds l' told)
    ∙ sym (append_assoc now (to_come l'.copies) rest)
    ∙ ap (λ t. t ++ rest) (comes_if due l)
all_come (Connect ∷ steps) ds l told =
    all_come steps ds (connect l) told ∙ ap (λ cs. to_come cs ++ visits (blocks_put steps) (map times ds)) (same_copies l.connected l)

-- the first visits are visits
abbrev least : ℕ → ℕ → ℕ
least zero n = zero
least (suc k) zero = zero
least (suc k) (suc n) = suc (least k n)

abbrev less : ℕ → ℕ → ℕ
less zero n = zero
less (suc k) zero = suc k
less (suc k) (suc n) = less k n

abbrev first_counts : ℕ → List ℕ → List ℕ
first_counts k [] = []
first_counts k (n ∷ counts) = least k n ∷ first_counts (less k n) counts

take_often : (k n : ℕ) (bytes : List ℕ) (rest : List (List ℕ)) → take k (so_often n bytes ++ rest) ≡ so_often (least k n) bytes ++ take (less k n) rest
take_often zero n bytes rest = refl
take_often (suc k) zero bytes rest = refl
take_often (suc k) (suc n) bytes rest = ap (λ t. bytes ∷ t) (take_often k n bytes rest)

none_taken : (k : ℕ) → take {A = List ℕ} k [] ≡ []
none_taken zero = refl
none_taken (suc k) = refl

first_visits : (k : ℕ) (blocks : List (List ℕ)) (counts : List ℕ) → take k (visits blocks counts) ≡ visits blocks (first_counts k counts)
first_visits k [] counts = none_taken k
first_visits k (b ∷ blocks) [] = none_taken k
first_visits k (b ∷ blocks) (n ∷ counts) =
    take_often k n b (visits blocks counts) ∙ ap (λ t. so_often (least k n) b ++ t) (first_visits (less k n) blocks counts)

pub in_order : (blocks came rest : List (List ℕ)) (counts : List ℕ) → came ++ rest ≡ visits blocks counts → IsInOrder blocks came
in_order blocks came rest counts e = record {
  counts = first_counts (length came) counts;
  visited = sym (take-append_seam came rest) ∙ ap (λ t. take (length came) t) e ∙ first_visits (length came) blocks counts;
}

-- the blocks as they are put
abbrev pub copies_put : ℕ → List Step → List (Option Deed) → List Copy
copies_put last [] ds = []
copies_put last (Put turn bytes ∷ steps) [] = []
copies_put last (Put turn bytes ∷ steps) (d ∷ ds) =
    let due = max last (turn + delay_of d) in
    record { bytes = bytes; comes = comes_of d bytes; due = due; fate = fate_of d bytes } ∷ copies_put due steps ds
copies_put last (Due turn ∷ steps) ds = copies_put last steps ds
copies_put last (Connect ∷ steps) ds = copies_put last steps ds

pub bytes_put : (steps : List Step) (ds : List (Option Deed)) (l : Line) (last : ℕ) → Tells l steps ds → map (λ (c : Copy). c.bytes) (copies_put last steps ds) ≡ blocks_put steps
bytes_put [] ds l last told = refl
bytes_put (Put turn bytes ∷ steps) [] l last told = absurd told
bytes_put (Put turn bytes ∷ steps) (d ∷ ds) l last told = ap (λ t. bytes ∷ t) (bytes_put steps ds (put_on l turn bytes) (max last (turn + delay_of d)) told.1)
bytes_put (Due turn ∷ steps) ds l last told = bytes_put steps ds (after_due l turn) last told
bytes_put (Connect ∷ steps) ds l last told = bytes_put steps ds (connect l) last told

pub dues_put : (steps : List Step) (ds : List (Option Deed)) (last : ℕ) → map (λ (c : Copy). c.due) (copies_put last steps ds) ≡ greatest_up_to last (own_turns (turns_put steps) ds)
dues_put [] ds last = refl
dues_put (Put turn bytes ∷ steps) [] last = refl
dues_put (Put turn bytes ∷ steps) (d ∷ ds) last =
    let due = max last (turn + delay_of d) in
    ap (λ t. due ∷ t) (dues_put steps ds due)
dues_put (Due turn ∷ steps) ds last = dues_put steps ds last
dues_put (Connect ∷ steps) ds last = dues_put steps ds last

gone_by : {X : Type 0} (f : Copy → X) → ((c : Copy) → f (record { bytes = c.bytes; comes = c.comes; due = c.due; fate = Last }) ≡ f c) → (fate : Fate) (c : Copy) (cs : List Copy)
    → (gone : List X) × gone ++ map f (copies_left_by fate c cs) ≡ f c ∷ map f cs
gone_by f same Lost c cs = (f c ∷ [], refl)
gone_by f same Last c cs = (f c ∷ [], refl)
gone_by f same Stays c cs = ([], ap (λ x. x ∷ map f cs) (same c))
gone_by f same Garbled c cs = (f c ∷ [], refl)

gone_left : {X : Type 0} (f : Copy → X) → ((c : Copy) → f (record { bytes = c.bytes; comes = c.comes; due = c.due; fate = Last }) ≡ f c) → (cs : List Copy)
    → (gone : List X) × gone ++ map f (copies_left cs) ≡ map f cs
gone_left f same [] = ([], refl)
gone_left f same (c ∷ cs) = gone_by f same c.fate c cs

gone_if : {X : Type 0} (f : Copy → X) → ((c : Copy) → f (record { bytes = c.bytes; comes = c.comes; due = c.due; fate = Last }) ≡ f c) → (due : Bool) (l : Line)
    → (gone : List X) × gone ++ map f (after_if due l).copies ≡ map f l.copies
gone_if f same true l = gone_left f same l.copies
gone_if f same false l = ([], refl)

same_last : {X : Type 0} (f : Copy → X) (due : Bool) (l : Line) (steps : List Step) (ds : List (Option Deed))
    → map f (after_if due l).copies ++ map f (copies_put (after_if due l).last steps ds) ≡ map f (after_if due l).copies ++ map f (copies_put l.last steps ds)
same_last f true l steps ds = refl
same_last f false l steps ds = refl

-- what is under way are the last blocks that were put
pub last_put : {X : Type 0} (f : Copy → X) → ((c : Copy) → f (record { bytes = c.bytes; comes = c.comes; due = c.due; fate = Last }) ≡ f c)
    → (steps : List Step) (ds : List (Option Deed)) (l : Line) → Tells l steps ds
    → (gone : List X) × gone ++ map f (run_line steps l).copies ≡ map f l.copies ++ map f (copies_put l.last steps ds)
last_put f same [] ds l told = ([], sym (append-nil (map f l.copies)))
last_put f same (Put turn bytes ∷ steps) [] l told = absurd told
last_put f same (Put turn bytes ∷ steps) (e ∷ ds) l told =
    let d = deed_of l.number l.entries in
    let one : Option Deed → Copy = λ x. record { bytes = bytes; comes = comes_of x bytes; due = max l.last (turn + delay_of x); fate = fate_of x bytes } in
    let rest : Option Deed → List Copy = λ x. one x ∷ copies_put (max l.last (turn + delay_of x)) steps ds in
    let more = last_put f same steps ds (put_on l turn bytes) told.1 in
    let behind_it = map f (copies_put (max l.last (turn + delay_of d)) steps ds) in
    (more.0, more.1 ∙ ap (λ t. t ++ behind_it) (map-append f l.copies (one d ∷ [])) ∙ append_assoc (map f l.copies) (f (one d) ∷ []) behind_it ∙ ap (λ x. map f l.copies ++ map f (rest x)) told.0)
last_put f same (Due turn ∷ steps) ds l told =
    let due = is_oldest_due turn l.copies in
    let l' = after_if due l in
    let more = last_put f same steps ds l' told in
    let one = gone_if f same due l in
    let rest = map f (copies_put l.last steps ds) in
    (one.0 ++ more.0, append_assoc one.0 more.0 (map f (run_line steps l').copies) ∙ ap (λ t. one.0 ++ t) (more.1 ∙ same_last f due l steps ds) ∙ sym (append_assoc one.0 (map f l'.copies) rest) ∙ ap (λ t. t ++ rest) one.1)
last_put f same (Connect ∷ steps) ds l told =
    let more = last_put f same steps ds (connect l) told in
    (more.0, more.1 ∙ ap (λ cs. map f cs ++ map f (copies_put (connect l).last steps ds)) (same_copies l.connected l) ∙ ap (λ k. map f l.copies ++ map f (copies_put k steps ds)) (same_last_due l.connected l))

-- quiet turns
over_used : (turn calm k : ℕ) (d : Option Deed) (turns : List ℕ) → calm_from calm k d ≤ turn → AreOver turn turns → (calm ≤ turn) × AreOver turn (turn_used d k ++ turns)
over_used turn calm k None turns h over = (h, over)
over_used turn calm k (Some d) turns h over = (omega arith, (omega arith, over))

used_over : (turn calm k : ℕ) (d : Option Deed) (turns : List ℕ) → calm ≤ turn → AreOver turn (turn_used d k ++ turns) → (calm_from calm k d ≤ turn) × AreOver turn turns
used_over turn calm k None turns h over = (h, over)
used_over turn calm k (Some d) turns h over = (omega (arith, over.0), over.1)

same_calm : (due : Bool) (l : Line) → (after_if due l).calm ≡ l.calm
same_calm true l = refl
same_calm false l = refl

pub calm_over : (turn : ℕ) (steps : List Step) (ds : List (Option Deed)) (l : Line) → Tells l steps ds → (run_line steps l).calm ≤ turn → (l.calm ≤ turn) × AreOver turn (turns_used (turns_put steps) ds)
calm_over turn [] ds l told h = (h, tt)
calm_over turn (Put k bytes ∷ steps) [] l told h = absurd told
calm_over turn (Put k bytes ∷ steps) (d ∷ ds) l told h =
    let rest = calm_over turn steps ds (put_on l k bytes) told.1 h in
    let Calm : Option Deed → Type 0 = λ d. calm_from l.calm k d ≤ turn in
    over_used turn l.calm k d (turns_used (turns_put steps) ds) (subst Calm told.0 rest.0) rest.1
calm_over turn (Due k ∷ steps) ds l told h =
    let due = is_oldest_due k l.copies in
    let rest = calm_over turn steps ds (after_if due l) told h in
    let e = same_calm due l in
    (omega (arith, rest.0, e), rest.1)
calm_over turn (Connect ∷ steps) ds l told h =
    let rest = calm_over turn steps ds (connect l) told h in
    let e = connect_calm l.connected l in
    (omega (arith, rest.0, e), rest.1)

pub over_calm : (turn : ℕ) (steps : List Step) (ds : List (Option Deed)) (l : Line) → Tells l steps ds → l.calm ≤ turn → AreOver turn (turns_used (turns_put steps) ds) → (run_line steps l).calm ≤ turn
over_calm turn [] ds l told h over = h
over_calm turn (Put k bytes ∷ steps) [] l told h over = absurd told
over_calm turn (Put k bytes ∷ steps) (d ∷ ds) l told h over =
    let Calm : Option Deed → Type 0 = λ d. calm_from l.calm k d ≤ turn in
    let rest = used_over turn l.calm k d (turns_used (turns_put steps) ds) h over in
    over_calm turn steps ds (put_on l k bytes) told.1 (subst Calm (sym told.0) rest.0) rest.1
over_calm turn (Due k ∷ steps) ds l told h over =
    let due = is_oldest_due k l.copies in
    let e = same_calm due l in
    over_calm turn steps ds (after_if due l) told (omega (arith, h, e)) over
over_calm turn (Connect ∷ steps) ds l told h over =
    let e = connect_calm l.connected l in
    over_calm turn steps ds (connect l) told (omega (arith, h, e)) over
