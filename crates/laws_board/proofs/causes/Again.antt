-- A board that drifts tells its clock again and again.
use Rattle.std.proofs.Common.{◌≡◌, ℕ, zero, suc, ℤ, pos, negsuc, ◌+◌, ◌-◌, ◌*◌, ◌%◌, ◌<◌, ◌≤◌, ◌⊎◌, inl, inr, Bool, true, false, cond, not, List, [], ◌∷◌, ◌++◌, length, Option, Some, None, refl, ap, sym, ◌∙◌, subst, arith}
use Rattle.std.specs.Prelude.{◌==◌, ◌&&◌, nat_le, nat_lt}
use Rattle.std.proofs.lemmas.Bool.{lt-leb, ltb-false, ltb-true}
use Rattle.laws_board.proofs.Names.{eqb_tells, leb_tells, Cause, Level, Machine, Line, clock_of, Clocks, IsValidMachine, board_at, Cmd, Note, State, Control, ReportLine, Entry, Switch, first_state, Asking, ready, listen_all, asks_now, drifts, stale, waits_in, configuration, homing_turn, Known, Phase, Connecting, Stopping, is_out as note_out, news_of, noted, by_phase, homing_commands, reacts, unless_ended, unless_stale, first_lines, first_cause, Came, known_by, last_reacted}
use Rattle.plan_types.specs.declared.cause.Cause.TheVariants as cause
use Rattle.plan_types.specs.Sections as section
use Rattle.msg_code.specs.declared.talk.WordNews.{WordNews}
use Rattle.msg_code.specs.declared.talk.WordNews.TheVariants as word
use Rattle.board_asking.specs.Asking.{is_in_time, is_out, more, new_asking}
use Rattle.board_asking.specs.Connecting.{board_line}
use Rattle.board_asking.specs.Drift.{after_question, bytes_of, gives_up, is_asked_now, is_unanswered, new_line, new_lines}
use Rattle.board_asking.specs.Machine.{control_bytes}
use Rattle.host_reactor.specs.declared.ordered.Phase.TheVariants.{Running}
use Rattle.host_reactor.specs.Reactor.{homed}
use Rattle.laws_board.specs.turns.Turns.{BoardTurn, latest_state}
use Rattle.laws_board.specs.clocks.Runs.{IsInRun}
use Rattle.laws_board.specs.clocks.Samples.{further_lines}
use Rattle.laws_board.proofs.clocks.Clocked.{own_clocks}
use Rattle.laws_board.proofs.clocks.Lines.{as_long, noted_askings, noted_phase, run_before, stands, turn_of}
use Rattle.laws_board.proofs.clocks.Turning.{Asks, BoardRuns, BoardTurned, Ends, Runs, asking_at, clocks_at, heard_now, new_at}
use Rattle.laws_board.specs.causes.Causes.{came_by_turn}
use Rattle.host_reactor.specs.Room.{HasOrderRoom, HaveRoom}
use Rattle.laws_board.specs.causes.Again.{TellsLineFrom}
use Rattle.laws_board.proofs.causes.Chain.{in_time_none, late_state, none_asked, not_four, unanswered_four, waits_four, waits_out}
use Rattle.laws_board.proofs.causes.Running.{IsSettled, Rests, Stays, heard_either, heard_late, heard_waits, settled_asks, settled_now, settled_ready}
use Rattle.laws_board.proofs.causes.Turns.{came_all, came_less}
use Rattle.laws_board.proofs.causes.Told.{one_of, still_running}
use Rattle.host_reactor.proofs.Connects.{not-running}

-- the latest of these turns, so many, left no room
abbrev Dry : Machine → List Switch → ℕ → ℕ → List Came → Type 0
Dry m switches b zero came = Unit {0}
Dry m switches b (suc n) [] = ⊥
Dry m switches b (suc n) (c ∷ before) = (HasOrderRoom m switches b c before → ⊥) × Dry m switches b n before

dry_few : (m : Machine) (switches : List Switch) (b n : ℕ) (came : List Came) → HaveRoom m switches b came → Dry m switches b n came → n ≤ 2
dry_few m switches b zero came h d = omega arith
dry_few m switches b (suc zero) came h d = omega arith
dry_few m switches b (suc (suc zero)) came h d = omega arith
dry_few m switches b (suc (suc (suc n))) [] h d = absurd d
dry_few m switches b (suc (suc (suc n))) (c ∷ []) h d = absurd d.1
dry_few m switches b (suc (suc (suc n))) (c ∷ (e ∷ [])) h d = absurd d.1.1
dry_few m switches b (suc (suc (suc n))) (c ∷ (e ∷ (f ∷ before))) h d = elim h.0 [
  | inl x ↦ absurd (d.0 x)
  | inr o ↦ elim o [ inl x ↦ absurd (d.1.0 x) | inr x ↦ absurd (d.1.1.0 x) ]
]

have_before : (m : Machine) (switches : List Switch) (b : ℕ) (c : Came) (before : List Came) → HaveRoom m switches b (c ∷ before) → HaveRoom m switches b before
have_before m switches b c [] h = tt
have_before m switches b c (d ∷ []) h = tt
have_before m switches b c (d ∷ (e ∷ before)) h = h.1

-- what is out so long that nothing answers it
abbrev IsPast : ℕ → Option ℕ → Type 0
IsPast k None = Unit {0}
IsPast k (Some s) = s + 5 ≤ k

past_more : (k : ℕ) (o : Option ℕ) → IsPast k o → IsPast (suc k) o
past_more k None p = tt
past_more k (Some s) p = omega arith

past_none : (k : ℕ) (o : Option ℕ) → o ≡ None → IsPast k o
past_none k None e = tt
past_none k (Some s) e = cc

past_four : (k s : ℕ) (o : Option ℕ) → o ≡ Some s → s + 4 ≤ k → IsPast (suc k) o
past_four k s o e h = subst (λ (x : Option ℕ). IsPast (suc k) x) (sym e) (omega arith)

past_late : (k turn : ℕ) (o : Option ℕ) → turn + 1 ≡ k → IsPast k o → is_in_time turn o ≡ false
past_late k turn None e p = refl
past_late k turn (Some s) e p = lt-leb (turn - s) 3 (omega arith)

past_answer : (k : ℕ) (o : Option ℕ) → IsPast k o → is_unanswered k o ≡ false
past_answer k None p = refl
past_answer k (Some s) p = not_four k s (inr p)

-- as a turn k begins, and a turn is due in which a clock is asked for: nothing is out and nothing waits, and that turn is to come
record IdleTo (due k : ℕ) (y : Asking) : Type 0 where
  pub rests : Rests y
  pub waits : y.waits ≡ false
  pub early : k ≤ due

-- an asking is out, six turns later at most for each one that was missed
record OutTo (due k : ℕ) (y : Asking) : Type 0 where
  pub s : ℕ
  pub since : y.since ≡ Some s
  pub waits : y.waits ≡ false
  pub few : y.missed ≤ 199
  pub early : s ≤ due + 2 + 6 * y.missed
  pub now : k ≤ s + 4

-- or it waits for room
record WaitsTo (m : Machine) (switches : List Switch) (b due until : ℕ) (came : List Came) (y : Asking) : Type 0 where
  pub n : ℕ
  pub past : IsPast until y.since
  pub waits : y.waits ≡ true
  pub few : y.missed ≤ 199
  pub early : length came ≤ due + n + 6 * y.missed
  pub dry : Dry m switches b n came

abbrev StandsTo : Machine → List Switch → ℕ → ℕ → List Came → Asking → Type 0
StandsTo m switches b due came y = IdleTo due (length came) y ⊎ (OutTo due (length came) y ⊎ WaitsTo m switches b due (length came) came y)

-- a turn of a board that drifts, which runs
record Turned (m : Machine) (switches : List Switch) (b : ℕ) (c : Came) (before : List Came) (a y : Asking) : Type 0 where
  pub homing : List Cmd
  pub is : after_question (length before) homing (waits_in true (length before) a) ≡ y
  pub room : HasOrderRoom m switches b c before → bytes_of homing < control_bytes
  pub rooms : HaveRoom m switches b before
  pub goes : gives_up (length before) a ≡ false

-- what waits is asked where there is room
record Asked (k : ℕ) (w y : Asking) : Type 0 where
  pub since : y.since ≡ Some k
  pub missed : y.missed ≡ w.missed
  pub waits : y.waits ≡ false

asked_if : (t : Bool) (k first : ℕ) (w : Asking) → t ≡ true → Asked k w (cond t (record w { since = Some k; first = first; owed = more w.owed; waits = false }) w)
asked_if true k first w e = record { since = refl; missed = refl; waits = refl }
asked_if false k first w e = cc

asked_not : (t : Bool) (x w : Asking) → t ≡ false → cond t x w ≡ w
asked_not true x w e = cc
asked_not false x w e = refl

room_or : (t : Bool) (n limit : ℕ) → nat_lt n limit ≡ t → ((nat_lt n limit ≡ true) × (n < limit)) ⊎ ((nat_lt n limit ≡ false) × (limit ≤ n))
room_or true n limit e = inl (e, ltb-true n limit e)
room_or false n limit e = inr (e, ltb-false n limit e)

asked_so : (k : ℕ) (homing : List Cmd) (w : Asking) → asks_now homing w ≡ true → Asked k w (after_question k homing w)
asked_so k homing w e = asked_if (asks_now homing w) k (cond (w.missed == 0) k w.first) w e

not_so : (k : ℕ) (homing : List Cmd) (w : Asking) → asks_now homing w ≡ false → after_question k homing w ≡ w
not_so k homing w e = asked_not (asks_now homing w) (record w { since = Some k; first = cond (w.missed == 0) k w.first; owed = more w.owed; waits = false }) w e

from_waiting : (m : Machine) (switches : List Switch) (b due : ℕ) (c : Came) (before : List Came) (w y : Asking) (homing : List Cmd) → after_question (length before) homing w ≡ y
    → (HasOrderRoom m switches b c before → bytes_of homing < control_bytes) → HaveRoom m switches b before → WaitsTo m switches b due (suc (length before)) before w → StandsTo m switches b due (c ∷ before) y
from_waiting m switches b due c before w y homing is room rooms o =
    let k = length before in
    let dry = o.dry in
    let n = dry_few m switches b o.n before rooms dry in
    let early = o.early in
    let few = o.few in
    let test = ap (λ (t : Bool). t && nat_lt (bytes_of homing) control_bytes) o.waits in
    elim (room_or (nat_lt (bytes_of homing) control_bytes) (bytes_of homing) control_bytes refl) [
      | inl p ↦
          let x : Asked k w y = subst (λ (v : Asking). Asked k w v) is (asked_so k homing w (test ∙ p.0)) in
          let same = x.missed in
          inr (inl (record { s = k; since = x.since; waits = x.waits; few = omega arith; early = omega arith; now = omega arith }))
      | inr p ↦
          let same : w ≡ y = sym (not_so k homing w (test ∙ p.0)) ∙ is in
          let full = p.1 in
          let own : WaitsTo m switches b due (suc k) (c ∷ before) w = record {
            n = suc o.n;
            past = o.past;
            waits = o.waits;
            few = o.few;
            early = omega arith;
            dry = (λ h. let l = room h in omega arith, o.dry);
          } in
          inr (inr (subst (λ (v : Asking). WaitsTo m switches b due (suc k) (c ∷ before) v) same own))
    ]

-- nothing was out
now_if : (out q : Bool) → out ≡ false → (true && (not out && q)) ≡ q
now_if false q e = refl
now_if true q e = cc

idle_by : (u n q : Bool) (x y a : Asking) → u ≡ false → n ≡ q → cond u x (cond n y a) ≡ cond q y a
idle_by false n q x y a e f = ap (λ (t : Bool). cond t y a) f
idle_by true n q x y a e f = cc

waits_rest : (k : ℕ) (a : Asking) (q : Bool) → a.since ≡ None → (k % 1_000 == 0) ≡ q → waits_in true k a ≡ cond q (record a { waits = true }) a
waits_rest k a q e f =
    idle_by (is_unanswered k a.since) (is_asked_now true k a.since) q (record a { missed = more a.missed; waits = true }) (record a { waits = true }) a (ap (is_unanswered k) e)
    (now_if (is_out a.since) (k % 1_000 == 0) (ap is_out e) ∙ f)

from_idle : (m : Machine) (switches : List Switch) (b due : ℕ) (c : Came) (before : List Came) (a y : Asking) → due % 1_000 ≡ 0 → Rests a → a.waits ≡ false → length before ≤ due
    → Turned m switches b c before a y → StandsTo m switches b due (c ∷ before) y
from_idle m switches b due c before a y thousand r w early x =
    let k = length before in
    let missed = r.missed in
    elim (eqb_tells (k % 1_000) 0) [
      | inl p ↦
          let same = waits_rest k a true r.since p.0 in
          let own : WaitsTo m switches b due (suc k) before (record a { waits = true }) = record { n = 0; past = past_none (suc k) a.since r.since; waits = refl; few = omega arith; early = omega arith; dry = tt } in
          from_waiting m switches b due c before (record a { waits = true }) y x.homing (ap (λ (v : Asking). after_question k x.homing v) (sym same) ∙ x.is) x.room x.rooms own
      | inr p ↦
          let same = waits_rest k a false r.since p.0 in
          let whole : a ≡ y = sym (not_so k x.homing a (none_asked x.homing a w)) ∙ (ap (λ (v : Asking). after_question k x.homing v) (sym same) ∙ x.is) in
          let not_now = p.1 in
          let own : IdleTo due (suc k) a = record { rests = r; waits = w; early = omega arith } in
          inl (subst (λ (v : Asking). IdleTo due (suc k) v) whole own)
    ]

-- an asking was out, and nothing answered it
few_more : (u : Bool) (n : ℕ) → u ≡ true → (u && nat_le 199 n) ≡ false → n ≤ 198
few_more false n e f = cc
few_more true n e f = elim (leb_tells 199 n) [
  | inl p ↦ let never : true ≡ false = sym p.0 ∙ f in cc
  | inr p ↦ let h = p.1 in omega arith
]

more_is : (n : ℕ) → n ≤ 198 → more n ≡ n + 1
more_is n h = omega arith

from_out : (m : Machine) (switches : List Switch) (b due : ℕ) (c : Came) (before : List Came) (z a y : Asking) → Stays a z → OutTo due (length before) z → Turned m switches b c before a y
    → StandsTo m switches b due (c ∷ before) y
from_out m switches b due c before z a y stays o x =
    let k = length before in
    let since : a.since ≡ Some o.s = stays.since ∙ o.since in
    let missed = stays.missed in
    let few = o.few in
    let early = o.early in
    let now = o.now in
    let waits : a.waits ≡ false = stays.waits ∙ o.waits in
    elim (leb_tells k (o.s + 3)) [
      | inl p ↦
          let h = p.1 in
          let same = waits_out true k o.s a since (inl p.1) in
          let whole : a ≡ y = sym (not_so k x.homing a (none_asked x.homing a waits)) ∙ (ap (λ (v : Asking). after_question k x.homing v) (sym same) ∙ x.is) in
          let own : OutTo due (suc k) a = record { s = o.s; since = since; waits = waits; few = omega arith; early = omega arith; now = omega arith } in
          inr (inl (subst (λ (v : Asking). OutTo due (suc k) v) whole own))
      | inr p ↦
          let h = p.1 in
          let four : k ≡ o.s + 4 = omega arith in
          let same = waits_four true k o.s a since four in
          let low = few_more (is_unanswered k a.since) a.missed (unanswered_four k o.s a.since since four) x.goes in
          let one = more_is a.missed low in
          let w = record a { missed = more a.missed; waits = true } in
          let own : WaitsTo m switches b due (suc k) before w = record { n = 0; past = past_four k o.s a.since since (omega arith); waits = refl; few = omega arith; early = omega arith; dry = tt } in
          from_waiting m switches b due c before w y x.homing (ap (λ (v : Asking). after_question k x.homing v) (sym same) ∙ x.is) x.room x.rooms own
    ]

-- an asking waited
record Holds (w a : Asking) : Type 0 where
  pub waits : w.waits ≡ true
  pub since : w.since ≡ a.since
  pub missed : w.missed ≡ a.missed

holds_if : (u n : Bool) (x a : Asking) → u ≡ false → a.waits ≡ true → Holds (cond u x (cond n (record a { waits = true }) a)) a
holds_if false true x a e w = record { waits = refl; since = refl; missed = refl }
holds_if false false x a e w = record { waits = w; since = refl; missed = refl }
holds_if true n x a e w = cc

waits_next : (m : Machine) (switches : List Switch) (b due k : ℕ) (before : List Came) (z w : Asking) → w.waits ≡ true → w.since ≡ z.since → w.missed ≡ z.missed
    → WaitsTo m switches b due k before z → WaitsTo m switches b due (suc k) before w
waits_next m switches b due k before z w e f g o =
    let few = o.few in
    let early = o.early in
    record {
      n = o.n;
      past = subst (λ (x : Option ℕ). IsPast (suc k) x) (sym f) (past_more k z.since o.past);
      waits = e;
      few = omega arith;
      early = omega arith;
      dry = o.dry;
    }

from_waits : (m : Machine) (switches : List Switch) (b due : ℕ) (c : Came) (before : List Came) (z a y : Asking) → Stays a z → WaitsTo m switches b due (length before) before z → Turned m switches b c before a y
    → StandsTo m switches b due (c ∷ before) y
from_waits m switches b due c before z a y stays o x =
    let k = length before in
    let past : IsPast k a.since = subst (λ (v : Option ℕ). IsPast k v) (sym stays.since) o.past in
    let h = holds_if (is_unanswered k a.since) (is_asked_now true k a.since) (record a { missed = more a.missed; waits = true }) a (past_answer k a.since past) (stays.waits ∙ o.waits) in
    let w = waits_in true k a in
    from_waiting m switches b due c before w y x.homing x.is x.room x.rooms
    (waits_next m switches b due k before z w h.waits (h.since ∙ stays.since) (h.missed ∙ stays.missed) o)

-- a further line is told in the turn in which an asking is answered
lines_behind : (b : ℕ) (xs ys : List WordNews) → 1 ≤ length (further_lines b ys) → 1 ≤ length (further_lines b (xs ++ ys))
lines_behind b [] ys h = h
lines_behind b (word.Lines lines ∷ xs) ys h = lines_behind b xs ys h
lines_behind b (word.Homed ∷ xs) ys h = lines_behind b xs ys h
lines_behind b (word.Line board line ∷ xs) ys h = one (board == b) (lines_behind b xs ys h)
  where
    one : (t : Bool) → 1 ≤ length (further_lines b (xs ++ ys)) → 1 ≤ length (cond t (line ∷ []) [] ++ further_lines b (xs ++ ys))
    one true k = omega arith
    one false k = k

first_told : (t : Bool) (i b : ℕ) (l : Line) (rest : List WordNews) → t ≡ true → i ≡ b → 1 ≤ length (further_lines b (cond t (word.Line i l ∷ []) [] ++ rest))
first_told false i b l rest e f = cc
first_told true i b l rest e f =
    let own : (i == b) ≡ true = elim (eqb_tells i b) [ inl p ↦ p.0 | inr p ↦ absurd (p.1 f) ] in
    let told : 1 ≤ length (l ∷ further_lines b rest) = omega arith in
    subst (λ (q : Bool). 1 ≤ length (cond q (l ∷ []) [] ++ further_lines b rest)) (sym own) told

line_told : (m : Machine) (i b j : ℕ) (before after : List Asking) (x a : Asking) → i + j ≡ b → asking_at j before ≡ x ∷ [] → asking_at j after ≡ a ∷ [] → (is_out x.since && not (is_out a.since)) ≡ true
    → 1 ≤ length (further_lines b (new_lines m i before after))
line_told m i b j [] after x a s e f o = cc
line_told m i b j (u ∷ before) [] x a s e f o = cc
line_told m i b zero (u ∷ before) (v ∷ after) x a s e f o =
    let p : u ≡ x = one_of u x e in
    let q : v ≡ a = one_of v a f in
    let out : (is_out u.since && not (is_out v.since)) ≡ true = ap (λ (z : Asking). is_out z.since && not (is_out v.since)) p ∙ ap (λ (z : Asking). is_out x.since && not (is_out z.since)) q ∙ o in
    first_told (is_out u.since && not (is_out v.since)) i b (board_line m i v) (new_lines m (i + 1) before after) out (omega arith)
line_told m i b (suc j) (u ∷ before) (v ∷ after) x a s e f o =
    lines_behind b (new_line m i u v) (new_lines m (i + 1) before after) (line_told m (i + 1) b j before after x a (omega arith) e f o)

-- a turn that doesn't end the run gives no board up
stale_open : (o : Option Cause) (m : Machine) (switches : List Switch) (r : Known) (k : ℕ) (states : List State) (lines : List ReportLine) (askings : List Asking)
    → (unless_stale o m switches r k states lines askings).ordered.end ≡ None → o ≡ None
stale_open None m switches r k states lines askings h = refl
stale_open (Some cause) m switches r k states lines askings h = cc

phase_open : (p : Phase) (m : Machine) (switches : List Switch) (r : Known) (k : ℕ) (states : List State) (lines : List ReportLine) → p ≡ Running → (by_phase p m switches r k states lines).ordered.end ≡ None
    → stale k 0 (listen_all r.askings.items states) ≡ None
phase_open Running m switches r k states lines e h = stale_open (stale k 0 (listen_all r.askings.items states)) m switches r k states lines (listen_all r.askings.items states) h
phase_open c m switches r k states lines e _ = cc

ended_open : (o : Option Cause) (m : Machine) (switches : List Switch) (r : Known) (k : ℕ) (states : List State) (lines : List ReportLine) → r.phase ≡ Running
    → (unless_ended o m switches r k states lines).ordered.end ≡ None → stale k 0 (listen_all r.askings.items states) ≡ None
ended_open None m switches r k states lines e h = phase_open r.phase m switches r k states lines e h
ended_open (Some cause) m switches r k states lines e h = cc

not_stale : (m : Machine) (switches : List Switch) (r : Known) (k : ℕ) (states : List State) (note : Option Note) → (noted m note r).phase ≡ Running → (reacts m switches r k states note).ordered.end ≡ None
    → stale k 0 (listen_all (noted m note r).askings.items states) ≡ None
not_stale m switches r k states note e h =
    let s = noted m note r in
    ended_open (first_cause (note_out note) s.stopped states) m switches s k states (first_lines m s k (news_of note) states) e h

pub open_if : (g : Bool) (c : Cause) (rest : Option Cause) → cond g (Some c) rest ≡ None → (g ≡ false) × (rest ≡ None)
open_if true c rest h = cc
open_if false c rest h = (refl, h)

gives_not : (k i j : ℕ) (askings : List Asking) (a : Asking) → stale k i askings ≡ None → asking_at j askings ≡ a ∷ [] → gives_up k a ≡ false
gives_not k i j [] a h e = cc
gives_not k i zero (x ∷ askings) a h e =
    let p : x ≡ a = one_of x a e in
    ap (gives_up k) (sym p) ∙ (open_if (gives_up k x) (cause.Stale i x.first) (stale k (i + 1) askings) h).0
gives_not k i (suc j) (x ∷ askings) a h e = gives_not k (i + 1) j askings a (open_if (gives_up k x) (cause.Stale i x.first) (stale k (i + 1) askings) h).1 e

-- one turn
out_then : (x y : Option ℕ) (s : ℕ) → x ≡ Some s → y ≡ None → (is_out x && not (is_out y)) ≡ true
out_then x y s e f = ap (λ (o : Option ℕ). is_out o && not (is_out y)) e ∙ ap (λ (o : Option ℕ). not (is_out o)) f

from_state : (m : Machine) (switches : List Switch) (b from due : ℕ) (c : Came) (before : List Came) (turns : List BoardTurn) (z a y : Asking) → due % 1_000 ≡ 0 → from ≤ due
    → ((s : State) (rest : List State) → latest_state turns ≡ s ∷ rest → s.turn + 1 ≡ length before) → a ≡ heard_now z (latest_state turns)
    → ((is_out z.since && not (is_out a.since)) ≡ true → 1 ≤ length (further_lines b (last_reacted m switches c before).ordered.word.news)) → Turned m switches b c before a y
    → StandsTo m switches b due before z → TellsLineFrom m switches b from (c ∷ before) ⊎ StandsTo m switches b due (c ∷ before) y
from_state m switches b from due c before turns z a y thousand low latest is told x (inl o) =
    let r = o.rests in
    let stays = heard_late z (latest_state turns) (λ s rest e. in_time_none s.turn z.since r.since) in
    let rest : Rests (heard_now z (latest_state turns)) = record { since = stays.since ∙ r.since; missed = stays.missed ∙ r.missed } in
    inr (from_idle m switches b due c before a y thousand (subst Rests (sym is) rest) (ap (λ (v : Asking). v.waits) is ∙ stays.waits ∙ o.waits) o.early x)
from_state m switches b from due c before turns z a y thousand low latest is told x (inr (inl o)) = elim (heard_either z (latest_state turns)) [
  | inl stays ↦ inr (from_out m switches b due c before z a y (subst (λ (v : Asking). Stays v z) (sym is) stays) o x)
  | inr r ↦
      let rest : Rests a = subst Rests (sym is) r in
      elim (leb_tells from (length before)) [
        | inl p ↦ inl (inl (p.1, told (out_then z.since a.since o.s o.since rest.since)))
        | inr p ↦
            let early = p.1 in
            inr (from_idle m switches b due c before a y thousand rest (ap (λ (v : Asking). v.waits) is ∙ heard_waits z (latest_state turns) ∙ o.waits) (omega arith) x)
      ]
]
from_state m switches b from due c before turns z a y thousand low latest is told x (inr (inr o)) =
    let stays = heard_late z (latest_state turns) (λ s rest e. past_late (length before) s.turn z.since (latest s rest e) o.past) in
    inr (from_waits m switches b due c before z a y (subst (λ (v : Asking). Stays v z) (sym is) stays) o x)

-- a turn in which the board runs
drifts_so : (z : ℤ) → (z ≡ pos 0 → ⊥) → drifts z ≡ true
drifts_so (pos zero) n = absurd (n refl)
drifts_so (pos (suc k)) n = refl
drifts_so (negsuc k) n = refl

own_section : (b : ℕ) (clocks : List Clocks) (own : Clocks) → clocks_at b clocks ≡ own ∷ [] → section.clocks_at clocks b ≡ own
own_section b clocks own e = sym (own_clocks b clocks own _ e)

runs_turned : (m : Machine) (switches : List Switch) (b : ℕ) (c : Came) (before : List Came) (a y : Asking) (t : Control) → drifts (board_at m b).drift ≡ true → HaveRoom m switches b before
    → (noted m c.note (known_by m switches before)).phase ≡ Running → (last_reacted m switches c before).ordered.end ≡ None
    → asking_at b (last_reacted m switches c before).known.askings.items ≡ y ∷ []
    → BoardRuns m (noted m c.note (known_by m switches before)) b (length before) c.states a (last_reacted m switches c before) t → Turned m switches b c before a y
runs_turned m switches b c before a y t d rooms p h at g =
    let r = noted m c.note (known_by m switches before) in
    let k = length before in
    let turn = homing_turn r.clocks k c.states r.homing in
    let homing = homing_commands m turn g.own b in
    record {
      homing = homing;
      is = ap (λ (q : Bool). after_question k homing (waits_in q k a)) (sym d) ∙ one_of _ y (sym g.asking ∙ at);
      room = λ room. subst (λ (q : Clocks). bytes_of (homing_commands m turn q b) < control_bytes) (own_section b r.clocks g.own g.own_is) room;
      rooms = rooms;
      goes = gives_not k 0 b (listen_all r.askings.items c.states) a (not_stale m switches (known_by m switches before) k c.states c.note p h) g.heard;
    }

-- over the turns of a run
abbrev IsLate : Machine → List Switch → ℕ → List Came → Type 0
IsLate m switches from came = from ≤ length came → (known_by m switches (came_by_turn from came)).phase ≡ Connecting → ⊥

late_before : (m : Machine) (switches : List Switch) (from : ℕ) (c : Came) (before : List Came) → IsLate m switches from (c ∷ before) → IsLate m switches from before
late_before m switches from c before l = λ h e. l (omega arith) (ap (λ (x : List Came). (known_by m switches x).phase) (came_less from c before h) ∙ e)

still_early : (m : Machine) (switches : List Switch) (from : ℕ) (came : List Came) → IsLate m switches from came → length came ≤ from → (known_by m switches came).phase ≡ Connecting → length came < from
still_early m switches from came l h e = elim (leb_tells from (length came)) [
  | inl p ↦ absurd (l p.1 (ap (λ (x : List Came). (known_by m switches x).phase) (came_all from came h) ∙ e))
  | inr p ↦ p.1
]

abbrev Again : Machine → List Switch → ℕ → ℕ → ℕ → List Came → Asking → Type 0
Again m switches b from due came y =
    (((known_by m switches came).phase ≡ Connecting) × IsSettled y × (length came < from))
    ⊎ (((known_by m switches came).phase ≡ Connecting → ⊥) × (TellsLineFrom m switches b from came ⊎ StandsTo m switches b due came y))

-- what a turn of a run begins with
record Begins (m : Machine) (switches : List Switch) (b from due : ℕ) (c : Came) (before : List Came) (turns : List BoardTurn) (z a : Asking) : Type 0 where
  pub thousand : due % 1_000 ≡ 0
  pub low : from ≤ due
  pub drifting : drifts (board_at m b).drift ≡ true
  pub rooms : HaveRoom m switches b before
  pub goes : (last_reacted m switches c before).ordered.end ≡ None
  pub late : IsLate m switches from (c ∷ before)
  pub latest : (s : State) (rest : List State) → latest_state turns ≡ s ∷ rest → s.turn + 1 ≡ length before
  pub was : asking_at b (known_by m switches before).askings.items ≡ z ∷ []
  pub hears : a ≡ heard_now z (latest_state turns)

again_turn : (m : Machine) (switches : List Switch) (b from due : ℕ) (c : Came) (before : List Came) (t : Control) (turns : List BoardTurn) (z a y : Asking) → Begins m switches b from due c before turns z a
    → Again m switches b from due before z → asking_at b (last_reacted m switches c before).known.askings.items ≡ y ∷ []
    → BoardTurned m (noted m c.note (known_by m switches before)) b (length before) c.states a (last_reacted m switches c before) t → Again m switches b from due (c ∷ before) y
again_turn m switches b from due c before t turns z a y x (inl old) at (Asks p g) =
    let setups = configuration m b in
    let early = old.2 in
    let ra = ready setups a in
    let next = settled_asks setups (length before) ra ra.stage refl (settled_ready setups a (subst IsSettled (sym x.hears) (settled_now z (latest_state turns) old.1))) in
    inl (g.phase, subst IsSettled (one_of _ y (sym g.asking ∙ at)) next, still_early m switches from (c ∷ before) x.late (omega arith) g.phase)
again_turn m switches b from due c before t turns z a y x (inl old) at (Ends p g) =
    let setups = configuration m b in
    let early = old.2 in
    let low = x.low in
    let ready_a = settled_ready setups a (subst IsSettled (sym x.hears) (settled_now z (latest_state turns) old.1)) in
    let idle : IdleTo due (suc (length before)) (ready setups a) = record { rests = ready_a.rests g.connected; waits = ready_a.waits; early = omega arith } in
    inr (not-running _ g.phase, inr (inl (subst (λ (v : Asking). IdleTo due (suc (length before)) v) (one_of _ y (sym g.asking ∙ at)) idle)))
again_turn m switches b from due c before t turns z a y x (inl old) at (Runs p g) = absurd (not-running _ p (noted_phase m c.note (known_by m switches before) ∙ old.0))
again_turn m switches b from due c before t turns z a y x (inr old) at (Asks p g) = absurd (old.0 (sym (noted_phase m c.note (known_by m switches before)) ∙ p))
again_turn m switches b from due c before t turns z a y x (inr old) at (Ends p g) = absurd (old.0 (sym (noted_phase m c.note (known_by m switches before)) ∙ p))
again_turn m switches b from due c before t turns z a y x (inr old) at (Runs p g) =
    let r = noted m c.note (known_by m switches before) in
    let after = listen_all r.askings.items c.states in
    let turned = runs_turned m switches b c before a y t x.drifting x.rooms p x.goes at g in
    let cut = (homing_turn r.clocks (length before) c.states r.homing).cut in
    let was : asking_at b r.askings.items ≡ z ∷ [] = ap (λ q. asking_at b q.items) (noted_askings m c.note (known_by m switches before)) ∙ x.was in
    let told : (is_out z.since && not (is_out a.since)) ≡ true → 1 ≤ length (further_lines b (last_reacted m switches c before).ordered.word.news) = λ out.
    subst (λ (l : List WordNews). 1 ≤ length (further_lines b l)) (sym g.news)
    (lines_behind b (homed cut) (new_lines m 0 r.askings.items after) (line_told m 0 b b r.askings.items after z a (omega arith) was g.heard out)) in
    inr (
      still_running g.stop _ g.phase,
      elim old.1 [
        | inl before_told ↦ inl (inr before_told)
        | inr state ↦ from_state m switches b from due c before turns z a y x.thousand x.low x.latest x.hears told turned state
      ],
    )

again : (m : Machine) (switches : List Switch) (pins : List (List Level)) (entries : List Entry) (b from due : ℕ) (came : List Came) (turns : List BoardTurn) → IsInRun m switches pins entries b came turns
    → due % 1_000 ≡ 0 → from ≤ due → drifts (board_at m b).drift ≡ true → HaveRoom m switches b came → IsLate m switches from came
    → (y : Asking) → asking_at b (known_by m switches came).askings.items ≡ y ∷ [] → Again m switches b from due came y
again m switches pins entries b from due [] [] r thousand low d rooms late y at =
    let same : new_asking ≡ y = one_of new_asking y (sym (new_at b m.boards r.board) ∙ at) in
    inl (refl, subst IsSettled same (record { waits = refl; rests = λ c. cc }), still_early m switches from [] late (omega arith) refl)
again m switches pins entries b from due [] (t ∷ turns) r thousand low d rooms late y at = absurd r.both
again m switches pins entries b from due (c ∷ before) [] r thousand low d rooms late y at = absurd r.both
again m switches pins entries b from due (c ∷ before) (t ∷ turns) r thousand low d rooms late y at =
    let x = turn_of m switches pins entries b c before t turns r in
    let rest = run_before m switches pins entries b c before t turns r in
    let long = as_long m switches b before turns r.both.2 in
    let have = have_before m switches b c before rooms in
    let old = again m switches pins entries b from due before turns rest thousand low d have (late_before m switches from c before late) x.first x.was in
    let begins : Begins m switches b from due c before turns x.first x.a = record {
      thousand = thousand;
      low = low;
      drifting = d;
      rooms = have;
      goes = r.goes_on.0;
      late = late;
      latest = λ s rest_states e. late_state (clock_of (board_at m b)) (first_state (board_at m b) pins b entries) turns s rest_states rest.turns_are e ∙ sym long;
      was = x.was;
      hears = x.hears;
    } in
    again_turn m switches b from due c before t.control turns x.first x.a y begins old at x.turned

-- the turn in which a board is asked next
record NextAsking (from : ℕ) : Type 0 where
  pub due : ℕ
  pub thousand : due % 1_000 ≡ 0
  pub low : from ≤ due
  pub soon : due ≤ from + 999

next_asking : (from : ℕ) → NextAsking from
next_asking from = record { due = from + 999 - (from + 999) % 1_000; thousand = omega arith; low = omega arith; soon = omega arith }

ends_soon : (m : Machine) (switches : List Switch) (b from due : ℕ) (came : List Came) (y : Asking) → due ≤ from + 999 → HaveRoom m switches b came → StandsTo m switches b due came y → length came < from + 2_200
ends_soon m switches b from due came y soon rooms (inl o) = let early = o.early in omega arith
ends_soon m switches b from due came y soon rooms (inr (inl o)) =
    let early = o.early in
    let few = o.few in
    let now = o.now in
    omega arith
ends_soon m switches b from due came y soon rooms (inr (inr o)) =
    let early = o.early in
    let few = o.few in
    let n = dry_few m switches b o.n came rooms o.dry in
    omega arith

told_of : (m : Machine) (switches : List Switch) (b from due : ℕ) (came : List Came) (y : Asking) → due ≤ from + 999 → HaveRoom m switches b came → from + 2_200 ≤ length came → Again m switches b from due came y
    → TellsLineFrom m switches b from came
told_of m switches b from due came y soon rooms long (inl old) = let early = old.2 in absurd (omega arith)
told_of m switches b from due came y soon rooms long (inr old) = elim old.1 [
  | inl told ↦ told
  | inr state ↦ let short = ends_soon m switches b from due came y soon rooms state in absurd (omega arith)
]

pub tells_again : (m : Machine) (switches : List Switch) (pins : List (List Level)) (entries : List Entry) (b : ℕ) (came : List Came) (turns : List BoardTurn) (from : ℕ) → IsValidMachine m
    → IsInRun m switches pins entries b came turns → (known_by m switches came).phase ≡ Running → ((board_at m b).drift ≡ pos 0 → ⊥) → HaveRoom m switches b came
    → ((known_by m switches (came_by_turn from came)).phase ≡ Connecting → ⊥) → from + 2_200 ≤ length came → TellsLineFrom m switches b from came
tells_again m switches pins entries b came turns from v r running drifting rooms late long =
    let next = next_asking from in
    let s = stands m switches pins entries b came turns r in
    told_of m switches b from next.due came s.a next.soon rooms long
    (again m switches pins entries b from next.due came turns r next.thousand next.low (drifts_so (board_at m b).drift drifting) rooms (λ h. late) s.a s.asking)
