-- What is known of a member of a homing group that has triggered stays known; and what it is where the group answers that no switch closed.
use Rattle.std.proofs.Common.{◌≡◌, ℕ, ◌+◌, ◌<◌, ◌≤◌, ◌⊎◌, ◌==◌, inl, inr, Bool, true, false, not, cond, List, [], ◌∷◌, ◌++◌, map, Option, Some, None, refl, ap, sym, ◌∙◌, subst, arith, append_assoc}
use Rattle.std.specs.Prelude.{nat_le, nat_lt, ◌||◌}
use Rattle.laws_board.proofs.Names.{leb_tells, nearest, Clocks, turn_in_run, turn_tick, Cmd, News, State, Member, Fired, Seen, GroupState, all_fired, both_parts}
use Rattle.plan_types.specs.declared.plan.TrigState.{TrigState}
use Rattle.msg_code.specs.declared.cmd.Cmd.TheVariants as cmd
use Rattle.trigger_group.specs.Group.{any_fired_by, came, expired, fired_by, first_fired, first_expired, first_switched, has_fired, member_hears, hears_from, later, switched}
use Rattle.trigger_group.specs.Kept.{BoardsRise}
use Rattle.axis_homing.specs.Homing.{came_at, hears_answer, hears_news, hears_state, hears_states}
use Rattle.laws_homing.specs.home_runs.Told.{IsMember}
use Rattle.laws_homing.proofs.home_runs.Setting.{rise_behind}
use Rattle.laws_homing.proofs.clear_groups.Starting.{MembersOf}
use Rattle.laws_homing.specs.missed_groups.Ticks.{IsReader}
use Rattle.laws_homing.proofs.missed_groups.Answering.{Missed, else_none, fired_some, none_expired, none_switched, rest_missed}
use Rattle.laws_homing.proofs.fired_runs.Once.{rise_first}
use Rattle.laws_homing.proofs.fired_runs.Reported.{Each}
use Rattle.laws_homing.proofs.fired_runs.Sight.{is_member}
use Rattle.std.proofs.lemmas.Bool.{or_parts}

module _ (P : Member → Fired → Type 0) where
  -- so one of some members is known to have triggered
  abbrev pub Has : List Seen → Type 0
  Has [] = ⊥
  Has (x ∷ xs) = ((f : Fired) × (x.fired ≡ Some f) × P x.member f) ⊎ Has xs

  from_one : (b : ℕ) (s : TrigState) (at when : ℕ) (x : Seen) → (f : Fired) × (x.fired ≡ Some f) × P x.member f → (f : Fired) × ((hears_from b s at when x).fired ≡ Some f) × P (hears_from b s at when x).member f
  from_one b s at when x k = by (x.member.board == b)
    where
      told : (can : Bool) → let y : Seen = cond can (record x { heard = Some (later x.heard when) }) (record x { fired = Some (first_fired x.fired (record { reason = s.reason; tick = at; turn = when })) }) in
          (f : Fired) × (y.fired ≡ Some f) × P y.member f
      told true = k
      told false = (k.0, ap (λ (o : Option Fired). Some (first_fired o (record { reason = s.reason; tick = at; turn = when }))) k.1, k.2)

      by : (here : Bool) → let y : Seen = cond here (member_hears s at when x) x in (f : Fired) × (y.fired ≡ Some f) × P y.member f
      by true = told s.can
      by false = k

  from_stays : (b : ℕ) (s : TrigState) (at when : ℕ) (xs : List Seen) → Has xs → Has (map (hears_from b s at when) xs)
  from_stays b s at when [] k = k
  from_stays b s at when (x ∷ xs) (inl k) = inl (from_one b s at when x k)
  from_stays b s at when (x ∷ xs) (inr k) = inr (from_stays b s at when xs k)

  came_stays : (b : ℕ) (s : TrigState) (at when : ℕ) (g : GroupState) → Has g.members → Has (came b s at when g).members
  came_stays b s at when g k = by (nat_lt when g.start)
    where
      by : (c : Bool) → Has (cond c g.members (map (hears_from b s at when) g.members))
      by true = k
      by false = from_stays b s at when g.members k

  at_stays : (b : ℕ) (s : TrigState) (at : ℕ) (o : Option ℕ) (g : GroupState) → Has g.members → Has (came_at b s at o g).members
  at_stays b s at None g k = k
  at_stays b s at (Some when) g k = came_stays b s at when g k

  answer_stays : (lines : Clocks) (b turn : ℕ) (a : Cmd) (g : GroupState) → Has g.members → Has (hears_answer lines b turn a g).members
  answer_stays lines b turn (cmd.TrsyncState oid can reason clock) g k =
      let at = nearest (turn_tick lines turn) clock in
      at_stays b (record { can = not (can == 0); reason = reason; clock = clock }) at (turn_in_run lines at) g k
  answer_stays lines b turn a g k = k

  news_stays : (lines : Clocks) (b turn : ℕ) (ns : List News) (g : GroupState) → Has g.members → Has (hears_news lines b turn ns g).members
  news_stays lines b turn [] g k = k
  news_stays lines b turn (n ∷ ns) g k = news_stays lines b turn ns (hears_answer lines b turn n.answer g) (answer_stays lines b turn n.answer g k)

  state_stays : (lines : Clocks) (b start : ℕ) (s : State) (g : GroupState) → Has g.members → Has (hears_state lines b start s g).members
  state_stays lines b start s g k = by (nat_le start (s.turn + 1))
    where
      by : (c : Bool) → Has (cond c (hears_news lines b s.turn s.news g) g).members
      by true = news_stays lines b s.turn s.news g k
      by false = k

  pub states_stay : (clocks : List Clocks) (b start : ℕ) (states : List State) (g : GroupState) → Has g.members → Has (hears_states clocks b start states g).members
  states_stay [] b start states g k = k
  states_stay (c ∷ clocks) b start [] g k = k
  states_stay (c ∷ clocks) b start (s ∷ states) g k = states_stay clocks (b + 1) start states (hears_state c b start s g) (state_stays c b start s g k)

  -- one is so, or none triggered in a turn up to this one
  pub has_or_none : (last : ℕ) (all : List Seen) → ((ahead : List Seen) (x : Seen) (behind : List Seen) (f : Fired) → all ≡ ahead ++ x ∷ behind → x.fired ≡ Some f → f.turn ≤ last → P x.member f) → Has all ⊎ (any_fired_by last all ≡ false)
  has_or_none last all so = go [] all refl
    where
      go : (ahead xs : List Seen) → all ≡ ahead ++ xs → Has xs ⊎ (any_fired_by last xs ≡ false)
      go ahead [] e = inr refl
      go ahead (x ∷ xs) e = by x.fired refl (go (ahead ++ x ∷ []) xs (e ∙ sym (append_assoc ahead (x ∷ []) xs)))
        where
          by : (o : Option Fired) → x.fired ≡ o → Has xs ⊎ (any_fired_by last xs ≡ false) → Has (x ∷ xs) ⊎ (any_fired_by last (x ∷ xs) ≡ false)
          by o is (inl k) = inl (inr k)
          by None is (inr none) = inr (ap (λ (z : Option Fired). fired_by last z || any_fired_by last xs) is ∙ none)
          by (Some f) is (inr none) = elim (leb_tells f.turn last) [
            | inl p ↦ inl (inl (f, is, so ahead x xs f e is p.1))
            | inr p ↦ inr (ap (λ (z : Option Fired). fired_by last z || any_fired_by last xs) is ∙ ap (λ (b : Bool). b || any_fired_by last xs) p.0 ∙ none)
          ]

-- a member's timeout passed in a turn up to the last one, or its readings triggered it, where it has the endstop
abbrev pub IsCause : ℕ → Member → Fired → Type 0
IsCause last x f = (f.turn ≤ last) × ((f.reason ≡ 2) ⊎ ((x.endstop ≡ true) × (f.reason ≡ 1)))

-- no member of a group that answers that no switch closed is so
pub has_none : (last : ℕ) (xs : List Seen) → Missed last xs → Has (IsCause last) xs → ⊥
has_none last [] k has = has
has_none last (x ∷ xs) k (inl now) = elim now.2.1 [
  | inl two ↦ none_expired last x.member.board x.fired now.0 now.1 (else_none (expired last x.member.board x.fired) (first_expired last xs) k.unexpired).0 two now.2.0
  | inr one ↦ none_switched x.member.endstop x.fired now.0 one.0 now.1 (else_none (switched x.member.endstop x.fired) (first_switched xs) k.unswitched).0 one.1
]
has_none last (x ∷ xs) k (inr more) = has_none last xs (rest_missed last x xs k) more

-- the member with the endstop is one
pub reader_is : (ahead : List Seen) (x : Seen) (behind : List Seen) → BoardsRise (MembersOf (ahead ++ x ∷ behind)) → IsReader x.member.board (MembersOf (ahead ++ x ∷ behind)) → x.member.endstop ≡ true
reader_is [] x behind rise (inl here) = here.1
reader_is [] x behind rise (inr more) =
    let up = rise_first x.member.board x.member (MembersOf behind) rise (is_member x.member.board (MembersOf behind) more) in
    absurd (omega (arith, up))
reader_is (y ∷ ahead) x behind rise (inl here) =
    let up = rise_first x.member.board y.member (MembersOf (ahead ++ x ∷ behind)) rise (there ahead) in
    let same = here.0 in
    absurd (omega (arith, up, same))
  where
    there : (xs : List Seen) → IsMember x.member.board (MembersOf (xs ++ x ∷ behind))
    there [] = inl refl
    there (z ∷ xs) = inr (there xs)
reader_is (y ∷ ahead) x behind rise (inr more) = reader_is ahead x behind (rise_behind y.member (MembersOf (ahead ++ x ∷ behind)) rise) more

late_one : (last : ℕ) (o : Option Fired) (f : Fired) → o ≡ Some f → fired_by last o ≡ false → last < f.turn
late_one last None f e none = cc
late_one last (Some g) f e none =
    let same : g ≡ f = cc in
    let At : Fired → Type 0 = λ z. last < z.turn in
    subst At same (elim (leb_tells g.turn last) [ inl p ↦ absurd (let bad : true ≡ false = sym p.0 ∙ none in cc) | inr p ↦ let l = p.1 in omega (arith, l) ])

pub reader_late : (last b : ℕ) (xs : List Seen) → Missed last xs → any_fired_by last xs ≡ false → IsReader b (MembersOf xs) → (W : ℕ → Fired → Type 0) (own : ℕ) → Each W own xs → (f : Fired) × ((f.reason ≡ 1) → ⊥) × (last < f.turn) × W b f
reader_late last b [] k none reads W own each = absurd reads
reader_late last b (x ∷ xs) k none (inl here) W own each =
    let some = fired_some x.fired (both_parts (has_fired x.fired) (all_fired xs) k.all).0 in (
      some.0,
      (λ one. none_switched x.member.endstop x.fired some.0 here.1 some.1 (else_none (switched x.member.endstop x.fired) (first_switched xs) k.unswitched).0 one),
      late_one last x.fired some.0 some.1 (or_parts (fired_by last x.fired) (any_fired_by last xs) none).0,
      subst (λ (n : ℕ). W n some.0) here.0 (each.0.0 some.0 some.1),
    )
reader_late last b (x ∷ xs) k none (inr more) W own each = reader_late last b xs (rest_missed last x xs k) (or_parts (fired_by last x.fired) (any_fired_by last xs) none).1 more W own each.1
