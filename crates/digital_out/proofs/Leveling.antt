-- Over every list of pushes and advances the level is that of the commands.
use Rattle.std.proofs.Common.{◌≡◌, ℕ, ◌+◌, ◌<◌, ◌≤◌, Bool, true, false, cond, ◌-◌, ◌||◌, List, [], ◌∷◌, ◌++◌, Option, Some, None, Ok, Err, length, refl, sym, ap, subst, ◌∙◌, arith, append_assoc, append-nil, true≢false}
use Rattle.std.specs.Prelude.{Result, nat_le, nat_lt, slice_get}
use Rattle.std.proofs.lemmas.Bool.Decides.{nat_tests}
use Rattle.plan_types.specs.Numbers.{tick_before}
use Rattle.circular_buffer.specs.Buffer.{last_item}
use Rattle.plan_types.specs.Board.{nearest}
use Rattle.digital_out.specs.declared.want.Want.{Want}
use Rattle.digital_out.specs.declared.queue.OutEvent.{OutEvent}
use Rattle.digital_out.specs.declared.queue.OutWhat.{OutWhat}
use Rattle.digital_out.specs.declared.queue.OutWhat.TheVariants.{On, Off, Missed}
use Rattle.digital_out.specs.declared.queue.OutRefusal.{OutRefusal}
use Rattle.digital_out.specs.declared.queue.OutRefusal.TheVariants.{Overflow, TooClose}
use Rattle.digital_out.specs.Rising.{WantsRiseFrom}
use Rattle.digital_out.specs.Calls.{AreFair, OutputCall, Push, Advance, accepted_wants, accepted_by, accepted_one, after_call, after_all, after_push, event_items, made, made_one, new_queue, call_time}
use Rattle.digital_out.specs.Levels.{first_miss, last_level, level_at, level_unless, missed_at, missed_by}
use Rattle.digital_out.specs.Outputs.{Output, Turn, comes_late, event_next, event_of, is_too_close, miss_turn, missed_of, not_behind, pushed, pushed_at, turn_by, output_turn, want_turn, with_time, with_want}
use Rattle.plan_types.proofs.Facts.{second_of_neither}
use Rattle.digital_out.proofs.Carrying.{stays_by}

-- a queue that was not missed goes on as its commands do: with the level and the tick of the last one that was carried out, and
-- those that pend
pub record GoesOn (q : Output) (all : List Want) : Type 0 where
  pub miss : (more : List Want) → first_miss q.max false 0 (all ++ more) ≡ first_miss q.max q.level q.last (q.pending ++ more)
  pub level : (more : List Want) (until : ℕ) → q.time ≤ until → last_level false until (all ++ more) ≡ last_level q.level until (q.pending ++ more)
  pub rise : WantsRiseFrom 0 q.pending

-- a queue that was missed: at the tick that its commands say, before the time up to which it was run
pub record IsMissed (q : Output) (all : List Want) (told : Option ℕ) : Type 0 where
  pub at : ℕ
  pub told_is : told ≡ Some at
  pub says : first_miss q.max false 0 all ≡ Some at
  pub past : at < q.time
  pub off : q.level ≡ false

-- how a queue stands behind calls, with the commands that were accepted and the miss that was told
abbrev pub Stands : Bool → Output → List Want → Option ℕ → Type 0
Stands true q all told = IsMissed q all told
Stands false q all told = (told ≡ None) × GoesOn q all

abbrev later : Option ℕ → Option ℕ → Option ℕ
later None b = b
later (Some x) b = Some x

missed_more : (w : OutWhat) (tick : ℕ) (a b : Option ℕ) → missed_by tick w (later a b) ≡ later (missed_by tick w a) b
missed_more Missed tick a b = refl
missed_more On tick a b = refl
missed_more Off tick a b = refl

missed_join : (xs ys : List OutEvent) → missed_at (xs ++ ys) ≡ later (missed_at xs) (missed_at ys)
missed_join [] ys = refl
missed_join (e ∷ xs) ys = ap (missed_by e.tick e.what) (missed_join xs ys) ∙ missed_more e.what e.tick (missed_at xs) (missed_at ys)

later_join : (a b c : Option ℕ) → later (later a b) c ≡ later a (later b c)
later_join None b c = refl
later_join (Some x) b c = refl

told_on : (tick : ℕ) (b : Bool) → missed_by tick (cond b On Off) None ≡ None
told_on tick true = refl
told_on tick false = refl

last_above : (p : Want) (ps : List Want) (w : Want) → not_behind (slice_get (p ∷ ps) (length ps)) w.tick ≡ false → WantsRiseFrom (p.tick + 1) ps → (low : ℕ) → low ≤ p.tick → WantsRiseFrom low (p ∷ ps ++ w ∷ [])
last_above p [] w far rise low le = let lt : p.tick < w.tick = grind (arith, nat_tests) in (le, (omega (arith, lt), tt))
last_above p (q ∷ qs) w far rise low le = (le, last_above q qs w far rise.1 (p.tick + 1) rise.0)

-- a command that is not too close stands behind those that pend
rise_more : (ps : List Want) (w : Want) → not_behind (last_item ps) w.tick ≡ false → WantsRiseFrom 0 ps → WantsRiseFrom 0 (ps ++ w ∷ [])
rise_more [] w far rise = (omega arith, tt)
rise_more (p ∷ ps) w far rise =
    let e : length (p ∷ ps) - 1 ≡ length ps = omega arith in
    last_above p ps w (subst (λ (n : ℕ). not_behind (slice_get (p ∷ ps) n) w.tick ≡ false) e far) rise.1 0 rise.0

-- one command more
goes_more : (q : Output) (all : List Want) (now : ℕ) (w : Want) → q.time ≤ now → not_behind (last_item q.pending) w.tick ≡ false → GoesOn q all → GoesOn (with_want q now w) (all ++ w ∷ [])
goes_more q all now w le far on = record {
  miss = λ more. ap (first_miss q.max false 0) (append_assoc all (w ∷ []) more) ∙ on.miss (w ∷ more) ∙ ap (first_miss q.max q.level q.last) (sym (append_assoc q.pending (w ∷ []) more));
  level = λ more until after. ap (last_level false until) (append_assoc all (w ∷ []) more) ∙ on.level (w ∷ more) until (omega (arith, le, after)) ∙ ap (last_level q.level until) (sym (append_assoc q.pending (w ∷ []) more));
  rise = rise_more q.pending w far on.rise;
}

-- the queue and what it stands for behind a push that is not ignored
abbrev PushStands : Output → List Want → ℕ → Bool → Result Output OutRefusal → Type 0
PushStands q all at level r = GoesOn (after_push q r) (all ++ accepted_by at level r) × ((after_push q r).missed ≡ false)

push_close : (q : Output) (all : List Want) (now at : ℕ) (level : Bool) (b : Bool) → is_too_close q.pending now at ≡ b → q.time ≤ now → q.missed ≡ false → GoesOn q all
    → PushStands q all at level (cond b (Err TooClose) (Ok (with_want q now (record { tick = at; on = level }))))
push_close q all now at level true is le well on = (subst (λ (ws : List Want). GoesOn q ws) (sym (append-nil all)) on, well)
push_close q all now at level false is le well on = (goes_more q all now (record { tick = at; on = level }) le (second_of_neither (nat_lt at now) (not_behind (last_item q.pending) at) is) on, well)

push_full : (q : Output) (all : List Want) (now at : ℕ) (level : Bool) (b : Bool) → q.time ≤ now → q.missed ≡ false → GoesOn q all
    → PushStands q all at level (cond b (Err Overflow) (cond (is_too_close q.pending now at) (Err TooClose) (Ok (with_want q now (record { tick = at; on = level })))))
push_full q all now at level true le well on = (subst (λ (ws : List Want). GoesOn q ws) (sym (append-nil all)) on, well)
push_full q all now at level false le well on = push_close q all now at level (is_too_close q.pending now at) refl le well on

-- how the queue stands behind a call
abbrev After : Output → List Want → Option ℕ → OutputCall → Type 0
After q all told c = Stands (after_call q c).missed (after_call q c) (all ++ accepted_one q c) (later told (missed_at (made_one q c)))

push_by : (q : Output) (all : List Want) (told : Option ℕ) (now clock : ℕ) (level b : Bool) → q.missed ≡ b → q.time ≤ now → Stands b q all told → After q all told (Push now clock level)
push_by q all told now clock level true is le st =
    let same : pushed q now clock level ≡ Ok (with_time q now) = ap (λ (x : Bool). cond x (Ok (with_time q now)) (pushed_at q now (nearest now clock) level)) is in
    let none : accepted_one q (Push now clock level) ≡ [] = ap (λ (x : Bool). cond x [] (accepted_by (nearest now clock) level (pushed q now clock level))) is in
    let past = st.past in
    let missed : IsMissed (with_time q now) all told = record { at = st.at; told_is = st.told_is; says = st.says; past = omega (arith, past, le); off = st.off } in
    let Behind : Output → List Want → Type 0 = λ x ws. Stands x.missed x ws (later told None) in
    let told_same : later told None ≡ told = later_none told in
    subst (λ (r : Result Output OutRefusal). Behind (after_push q r) (all ++ accepted_one q (Push now clock level))) (sym same)
    (subst (λ (ws : List Want). Behind (with_time q now) (all ++ ws)) (sym none)
    (subst (λ (ws : List Want). Behind (with_time q now) ws) (sym (append-nil all))
    (subst (λ (x : Bool). Stands x (with_time q now) all (later told None)) (sym is) (subst (λ (t : Option ℕ). IsMissed (with_time q now) all t) (sym told_same) missed))))
  where
    later_none : (t : Option ℕ) → later t None ≡ t
    later_none None = refl
    later_none (Some x) = refl
push_by q all told now clock level false is le st =
    let same : pushed q now clock level ≡ pushed_at q now (nearest now clock) level = ap (λ (x : Bool). cond x (Ok (with_time q now)) (pushed_at q now (nearest now clock) level)) is in
    let taken : accepted_one q (Push now clock level) ≡ accepted_by (nearest now clock) level (pushed q now clock level) = ap (λ (x : Bool). cond x [] (accepted_by (nearest now clock) level (pushed q now clock level))) is in
    let on = push_full q all now (nearest now clock) level (nat_le q.slots (length q.pending)) le is st.1 in
    let On : Result Output OutRefusal → Type 0 = λ r. PushStands q all (nearest now clock) level r in
    let here = subst On (sym same) on in
    let none : later told None ≡ None = ap (λ (t : Option ℕ). later t None) st.0 in
    subst (λ (x : Bool). Stands x (after_push q (pushed q now clock level)) (all ++ accepted_one q (Push now clock level)) (later told None)) (sym here.1)
    (none, subst (λ (ws : List Want). GoesOn (after_push q (pushed q now clock level)) (all ++ ws)) (sym taken) here.0)

-- how the queue stands behind a turn
abbrev TurnStands : List Want → Option ℕ → Turn → Type 0
TurnStands all told t = Stands t.left.missed t.left all (later told (missed_at (event_items t.event)))

still : (q : Output) (all : List Want) (told : Option ℕ) → told ≡ None → q.missed ≡ false → GoesOn q all → TurnStands all told (record { event = None; left = q })
still q all told none well on = subst (λ (x : Bool). Stands x q all (later told None)) (sym well) (ap (λ (t : Option ℕ). later t None) none, on)

miss_stands_by : (until at : ℕ) (q : Output) (all : List Want) (told : Option ℕ) (b : Bool) → nat_lt at until ≡ b → q.time ≡ until → told ≡ None → q.missed ≡ false → GoesOn q all → first_miss q.max false 0 all ≡ Some at
    → TurnStands all told (cond b (record { event = Some (record { tick = at; what = Missed }); left = record q { pending = []; level = false; missed = true } }) (record { event = None; left = q }))
miss_stands_by until at q all told true is time none well on says =
    let lt : at < until = grind (arith, nat_tests) in
    record { at = at; told_is = ap (λ (t : Option ℕ). later t (Some at)) none; says = says; past = omega (arith, lt, time); off = refl }
miss_stands_by until at q all told false is time none well on says = still q all told none well on

miss_stands : (until : ℕ) (q : Output) (all : List Want) (told : Option ℕ) (miss : Option ℕ) → q.time ≡ until → told ≡ None → q.missed ≡ false → GoesOn q all → first_miss q.max false 0 all ≡ miss → TurnStands all told (miss_turn until q miss)
miss_stands until q all told None time none well on says = still q all told none well on
miss_stands until q all told (Some at) time none well on says = miss_stands_by until at q all told (nat_lt at until) refl time none well on says

drop_first : (low a : ℕ) (ws : List Want) → low ≤ a → WantsRiseFrom (a + 1) ws → WantsRiseFrom low ws
drop_first low a [] le h = tt
drop_first low a (w ∷ ws) le h = let first = h.0 in (omega (arith, le, first), h.1)

want_stands : (until : ℕ) (q : Output) (all : List Want) (told : Option ℕ) (w : Want) (ws : List Want) (b : Bool) → nat_lt w.tick until ≡ b → q.pending ≡ w ∷ ws → comes_late (missed_of q.max q.level q.last) w.tick ≡ false → q.time ≡ until → told ≡ None
    → q.missed ≡ false → GoesOn q all → TurnStands all told (cond b (record { event = Some (event_of w); left = record q { pending = ws; level = w.on; last = w.tick } }) (record { event = None; left = q }))
want_stands until q all told w ws false is pend in_time time none well on = still q all told none well on
want_stands until q all told w ws true is pend in_time time none well on =
    let next : Output = record q { pending = ws; level = w.on; last = w.tick } in
    let lt : w.tick < until = grind (arith, nat_tests) in
    let rise : WantsRiseFrom 0 (w ∷ ws) = subst (λ (ps : List Want). WantsRiseFrom 0 ps) pend on.rise in
    let goes : GoesOn next all = record {
      miss = λ more.
          let whole = on.miss more ∙ ap (λ (ps : List Want). first_miss q.max q.level q.last (ps ++ more)) pend in
          whole ∙ ap (λ (x : Bool). cond x (missed_of q.max q.level q.last) (first_miss q.max w.on w.tick (ws ++ more))) in_time;
      level = λ more t after.
          let here : nat_lt w.tick t ≡ true = grind (arith, nat_tests) in
          on.level more t after ∙ ap (λ (ps : List Want). last_level q.level t (ps ++ more)) pend ∙ ap (λ (x : Bool). cond x (last_level w.on t (ws ++ more)) q.level) here;
      rise = drop_first 0 w.tick ws (omega arith) rise.1;
    } in
    subst (λ (x : Bool). Stands x next all (later told (missed_at (event_of w ∷ [])))) (sym well)
    (ap (λ (t : Option ℕ). later t (missed_at (event_of w ∷ []))) none ∙ told_on w.tick w.on, goes)

late_stands : (until : ℕ) (q : Output) (all : List Want) (told : Option ℕ) (w : Want) (ws : List Want) (b : Bool) → comes_late (missed_of q.max q.level q.last) w.tick ≡ b → q.pending ≡ w ∷ ws → q.time ≡ until → told ≡ None → q.missed ≡ false → GoesOn q all
    → TurnStands all told (cond b (miss_turn until q (missed_of q.max q.level q.last)) (want_turn until q w ws))
late_stands until q all told w ws true is pend time none well on =
    let miss = missed_of q.max q.level q.last in
    let says : first_miss q.max false 0 all ≡ miss = ap (first_miss q.max false 0) (sym (append-nil all)) ∙ on.miss [] ∙ ap (λ (ps : List Want). first_miss q.max q.level q.last (ps ++ [])) pend
    ∙ ap (λ (x : Bool). cond x miss (first_miss q.max w.on w.tick (ws ++ []))) is in
    miss_stands until q all told miss time none well on says
late_stands until q all told w ws false is pend time none well on = want_stands until q all told w ws (nat_lt w.tick until) refl pend is time none well on

turn_stands : (until : ℕ) (q : Output) (all : List Want) (told : Option ℕ) (pending : List Want) → q.pending ≡ pending → q.time ≡ until → told ≡ None → q.missed ≡ false → GoesOn q all → TurnStands all told (turn_by until q (missed_of q.max q.level q.last) pending)
turn_stands until q all told [] pend time none well on =
    let says : first_miss q.max false 0 all ≡ missed_of q.max q.level q.last = ap (first_miss q.max false 0) (sym (append-nil all)) ∙ on.miss [] ∙ ap (λ (ps : List Want). first_miss q.max q.level q.last (ps ++ [])) pend in
    miss_stands until q all told (missed_of q.max q.level q.last) time none well on says
turn_stands until q all told (w ∷ ws) pend time none well on = late_stands until q all told w ws (comes_late (missed_of q.max q.level q.last) w.tick) refl pend time none well on

-- the time goes on
goes_later : (q : Output) (all : List Want) (until : ℕ) → q.time ≤ until → GoesOn q all → GoesOn (with_time q until) all
goes_later q all until le on = record { miss = on.miss; level = λ more t after. on.level more t (omega (arith, le, after)); rise = on.rise }

later_none : (t : Option ℕ) → later t None ≡ t
later_none None = refl
later_none (Some x) = refl

advance_by : (q : Output) (all : List Want) (told : Option ℕ) (until : ℕ) (b : Bool) → q.missed ≡ b → q.time ≤ until → Stands b q all told → TurnStands all told (output_turn until (with_time q until))
advance_by q all told until true is le st =
    let now = with_time q until in
    let past = st.past in
    let same : Turn = record { event = None; left = now } in
    let missed : IsMissed now all (later told None) = record { at = st.at; told_is = later_none told ∙ st.told_is; says = st.says; past = omega (arith, past, le); off = st.off } in
    subst (λ (x : Bool). TurnStands all told (cond x same (turn_by until now (missed_of q.max q.level q.last) q.pending))) (sym is) (subst (λ (x : Bool). Stands x now all (later told None)) (sym is) missed)
advance_by q all told until false is le st =
    let now = with_time q until in
    let same : Turn = record { event = None; left = now } in
    subst (λ (x : Bool). TurnStands all told (cond x same (turn_by until now (missed_of q.max q.level q.last) q.pending))) (sym is) (turn_stands until now all told q.pending refl refl st.0 is (goes_later q all until le st.1))

one_call : (q : Output) (all : List Want) (told : Option ℕ) (c : OutputCall) → q.time ≤ call_time c → Stands q.missed q all told → After q all told c
one_call q all told (Push now clock level) le st = push_by q all told now clock level q.missed refl le st
one_call q all told (Advance until) le st =
    let turn = output_turn until (with_time q until) in
    subst (λ (ws : List Want). Stands turn.left.missed turn.left ws (later told (missed_at (event_items turn.event)))) (sym (append-nil all)) (advance_by q all told until q.missed refl le st)

-- how the queue stands behind all calls
all_calls : (q : Output) (all : List Want) (told : Option ℕ) (calls : List OutputCall) → AreFair q calls → Stands q.missed q all told → Stands (after_all q calls).missed (after_all q calls) (all ++ accepted_wants q calls) (later told (missed_at (made q calls)))
all_calls q all told [] fair st = subst (λ (ws : List Want). Stands q.missed q ws (later told None)) (sym (append-nil all)) (subst (λ (t : Option ℕ). Stands q.missed q all t) (sym (later_none told)) st)
all_calls q all told (c ∷ cs) fair st =
    let next = after_call q c in
    let rest = all_calls next (all ++ accepted_one q c) (later told (missed_at (made_one q c))) cs fair.2 (one_call q all told c fair.0 st) in
    let end = after_all next cs in
    let told_same : later (later told (missed_at (made_one q c))) (missed_at (made next cs)) ≡ later told (missed_at (made q (c ∷ cs))) = later_join told (missed_at (made_one q c)) (missed_at (made next cs)) ∙ ap (later told) (sym (missed_join (made_one q c) (made next cs))) in
    subst (λ (t : Option ℕ). Stands end.missed end (all ++ accepted_wants q (c ∷ cs)) t) told_same
    (subst (λ (ws : List Want). Stands end.missed end ws (later (later told (missed_at (made_one q c))) (missed_at (made next cs)))) (append_assoc all (accepted_one q c) (accepted_wants next cs)) rest)

pub behind_calls : (slots longest : ℕ) (calls : List OutputCall) → AreFair (new_queue slots longest) calls
    → Stands (after_all (new_queue slots longest) calls).missed (after_all (new_queue slots longest) calls) (accepted_wants (new_queue slots longest) calls) (missed_at (made (new_queue slots longest) calls))
behind_calls slots longest calls fair = all_calls (new_queue slots longest) [] None calls fair (refl, record { miss = λ more. refl; level = λ more until after. refl; rise = tt })

-- how long an output may stay on does not change
push_max : (q : Output) (b : Bool) (x y : Result Output OutRefusal) → (after_push q x).max ≡ q.max → (after_push q y).max ≡ q.max → (after_push q (cond b x y)).max ≡ q.max
push_max q true x y a b = a
push_max q false x y a b = b

turn_max : (n : ℕ) (b : Bool) (x y : Turn) → x.left.max ≡ n → y.left.max ≡ n → (cond b x y).left.max ≡ n
turn_max n true x y a b = a
turn_max n false x y a b = b

miss_max : (until : ℕ) (q : Output) (miss : Option ℕ) → (miss_turn until q miss).left.max ≡ q.max
miss_max until q None = refl
miss_max until q (Some at) = turn_max q.max (nat_lt at until) (record { event = Some (record { tick = at; what = Missed }); left = record q { pending = []; level = false; missed = true } }) (record { event = None; left = q }) refl refl

by_max : (until : ℕ) (q : Output) (miss : Option ℕ) (pending : List Want) → (turn_by until q miss pending).left.max ≡ q.max
by_max until q miss [] = miss_max until q miss
by_max until q miss (w ∷ ws) = turn_max q.max (comes_late miss w.tick) (miss_turn until q miss) (want_turn until q w ws) (miss_max until q miss)
    (turn_max q.max (nat_lt w.tick until) (record { event = Some (event_of w); left = record q { pending = ws; level = w.on; last = w.tick } }) (record { event = None; left = q }) refl refl)

after_max : (q : Output) (c : OutputCall) → (after_call q c).max ≡ q.max
after_max q (Push now clock level) =
    let at = nearest now clock in
    push_max q q.missed (Ok (with_time q now)) (pushed_at q now at level) refl
    (push_max q (nat_le q.slots (length q.pending)) (Err Overflow) (cond (is_too_close q.pending now at) (Err TooClose) (Ok (with_want q now (record { tick = at; on = level })))) refl
    (push_max q (is_too_close q.pending now at) (Err TooClose) (Ok (with_want q now (record { tick = at; on = level }))) refl refl))
after_max q (Advance until) =
    let now = with_time q until in
    turn_max q.max q.missed (record { event = None; left = now }) (turn_by until now (missed_of q.max q.level q.last) q.pending) refl (by_max until now (missed_of q.max q.level q.last) q.pending)

all_max : (q : Output) (calls : List OutputCall) → (after_all q calls).max ≡ q.max
all_max q [] = refl
all_max q (c ∷ cs) = all_max (after_call q c) cs ∙ after_max q c

before_late : (until at : ℕ) → until ≤ at → tick_before until (Some at) ≡ None
before_late until at h = let e : nat_lt at until ≡ false = grind (arith, nat_tests) in rw e refl

none_by : (until longest last : ℕ) (level : Bool) → until ≤ last → tick_before until (missed_of longest level last) ≡ None
none_by until longest last true le = before_late until (last + longest) (omega (arith, le))
none_by until longest last false le = refl

pick : (until : ℕ) (b : Bool) (x y : Option ℕ) → tick_before until x ≡ None → tick_before until y ≡ None → tick_before until (cond b x y) ≡ None
pick until true x y a b = a
pick until false x y a b = b

none_from : (until longest last : ℕ) (level : Bool) (ws : List Want) → until ≤ last → WantsRiseFrom last ws → tick_before until (first_miss longest level last ws) ≡ None
none_from until longest last level [] le rise = none_by until longest last level le
none_from until longest last level (w ∷ ws) le rise =
    let first = rise.0 in
    pick until (comes_late (missed_of longest level last) w.tick) (missed_of longest level last) (first_miss longest w.on w.tick ws) (none_by until longest last level le)
    (none_from until longest w.tick w.on ws (omega (arith, le, first)) (drop_first w.tick w.tick ws (omega arith) rise.1))

miss_past_by : (until at : ℕ) (q : Output) (b : Bool) → nat_lt at until ≡ b → (miss_turn until q (Some at)).event ≡ None → until ≤ at
miss_past_by until at q true is h = absurd (let x = rw is at h in cc)
miss_past_by until at q false is h = grind (arith, nat_tests)

miss_quiet : (until : ℕ) (q : Output) (miss : Option ℕ) → (miss_turn until q miss).event ≡ None → tick_before until miss ≡ None
miss_quiet until q None h = refl
miss_quiet until q (Some at) h = before_late until at (miss_past_by until at q (nat_lt at until) refl h)

late_past : (until : ℕ) (q : Output) (miss : Option ℕ) (tick : ℕ) → comes_late miss tick ≡ true → (miss_turn until q miss).event ≡ None → until ≤ tick
late_past until q None tick late h = absurd (true≢false (sym late))
late_past until q (Some at) tick late h = let le = miss_past_by until at q (nat_lt at until) refl h in let lt : at < tick = grind (arith, nat_tests) in omega (arith, le, lt)

stays : (until : ℕ) (level : Bool) (w : Want) (ws : List Want) → until ≤ w.tick → last_level level until (w ∷ ws) ≡ level
stays until level w ws le = let e : nat_lt w.tick until ≡ false = grind (arith, nat_tests) in rw e refl

-- what is said of a queue whose pending commands are these
abbrev Quiet : ℕ → Output → List Want → Type 0
Quiet until q pending = (tick_before until (first_miss q.max q.level q.last pending) ≡ None) × (last_level q.level until pending ≡ q.level)

quiet_late : (until : ℕ) (q : Output) (w : Want) (ws : List Want) (b : Bool) → comes_late (missed_of q.max q.level q.last) w.tick ≡ b → WantsRiseFrom 0 (w ∷ ws) → (turn_by until q (missed_of q.max q.level q.last) (w ∷ ws)).event ≡ None → Quiet until q (w ∷ ws)
quiet_late until q w ws true is rise h =
    let miss = missed_of q.max q.level q.last in
    let other = want_turn until q w ws in
    let here : (miss_turn until q miss).event ≡ None = sym (ap (λ (x : Bool). (cond x (miss_turn until q miss) other).event) is) ∙ h in
    (subst (λ (x : Bool). tick_before until (cond x miss (first_miss q.max w.on w.tick ws)) ≡ None) (sym is) (miss_quiet until q miss here), stays until q.level w ws (late_past until q miss w.tick is here))
quiet_late until q w ws false is rise h =
    let miss = missed_of q.max q.level q.last in
    let here : (want_turn until q w ws).event ≡ None = sym (ap (λ (x : Bool). (cond x (miss_turn until q miss) (want_turn until q w ws)).event) is) ∙ h in
    let le = stays_by until q w ws (nat_lt w.tick until) refl here in
    (subst (λ (x : Bool). tick_before until (cond x miss (first_miss q.max w.on w.tick ws)) ≡ None) (sym is) (none_from until q.max w.tick w.on ws le (drop_first w.tick w.tick ws (omega arith) rise.1)), stays until q.level w ws le)

quiet_of : (until : ℕ) (q : Output) (pending : List Want) → WantsRiseFrom 0 pending → (turn_by until q (missed_of q.max q.level q.last) pending).event ≡ None → Quiet until q pending
quiet_of until q [] rise h = (miss_quiet until q (missed_of q.max q.level q.last) h, refl)
quiet_of until q (w ∷ ws) rise h = quiet_late until q w ws (comes_late (missed_of q.max q.level q.last) w.tick) refl rise h

-- what the law says
abbrev pub Law : ℕ → ℕ → Output → List Want → Option ℕ → Type 0
Law longest until q all told = (told ≡ tick_before until (first_miss longest false 0 all)) × (q.level ≡ level_at longest until all)

law_of : (until : ℕ) (q : Output) (all : List Want) (told : Option ℕ) (b : Bool) → q.missed ≡ b → q.time ≤ until → event_next until q ≡ None → Stands b q all told → Law q.max until q all told
law_of until q all told true is le none st =
    let past = st.past in
    let soon : nat_lt st.at until ≡ true = grind (arith, nat_tests) in
    let here : tick_before until (first_miss q.max false 0 all) ≡ Some st.at = ap (tick_before until) st.says ∙ ap (λ (x : Bool). cond x (Some st.at) None) soon in
    (st.told_is ∙ sym here, st.off ∙ sym (ap (λ (x : Option ℕ). level_unless x (last_level false until all)) here))
law_of until q all told false is le none st =
    let now = with_time q until in
    let on = st.1 in
    let same : Turn = record { event = None; left = now } in
    let event : (turn_by until now (missed_of q.max q.level q.last) q.pending).event ≡ None = sym (ap (λ (x : Bool). (cond x same (turn_by until now (missed_of q.max q.level q.last) q.pending)).event) is) ∙ none in
    let quiet = quiet_of until now q.pending on.rise event in
    let says : first_miss q.max false 0 all ≡ first_miss q.max q.level q.last q.pending = ap (first_miss q.max false 0) (sym (append-nil all)) ∙ on.miss [] ∙ ap (first_miss q.max q.level q.last) (append-nil q.pending) in
    let here : tick_before until (first_miss q.max false 0 all) ≡ None = ap (tick_before until) says ∙ quiet.0 in
    let level : last_level false until all ≡ q.level = ap (last_level false until) (sym (append-nil all)) ∙ on.level [] until le ∙ ap (last_level q.level until) (append-nil q.pending) ∙ quiet.1 in
    (st.0 ∙ sym here, sym (ap (λ (x : Option ℕ). level_unless x (last_level false until all)) here ∙ level))

pub law : (slots longest until : ℕ) (calls : List OutputCall) → AreFair (new_queue slots longest) calls → (after_all (new_queue slots longest) calls).time ≤ until → event_next until (after_all (new_queue slots longest) calls) ≡ None
    → Law longest until (after_all (new_queue slots longest) calls) (accepted_wants (new_queue slots longest) calls) (missed_at (made (new_queue slots longest) calls))
law slots longest until calls fair le none =
    let q = after_all (new_queue slots longest) calls in
    let all = accepted_wants (new_queue slots longest) calls in
    let told = missed_at (made (new_queue slots longest) calls) in
    subst (λ (n : ℕ). Law n until q all told) (all_max (new_queue slots longest) calls) (law_of until q all told q.missed refl le none (behind_calls slots longest calls fair))
