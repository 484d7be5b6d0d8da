-- A run that ends as a board expired does so for the first member of the group that told so.
use Rattle.std.proofs.Common.{◌≡◌, ◌⊎◌, ℕ, ◌≤◌, ◌==◌, Bool, true, false, cond, List, [], ◌∷◌, length, map, Option, Some, None, refl, ap, sym, ◌∙◌, subst, arith, inl, inr, rules}
use Rattle.std.specs.Prelude.{◌&&◌, nat_le}
use Rattle.laws_board.proofs.Names.{eqb_tells, leb_tells, Machine, axis_at, Scene, End, Member, Fired, Seen, all_fired, Homing, hears_all, members_of, noted, Run, GoesOn, known_by, states-kept, both_parts}
use Rattle.plan_types.specs.declared.cause.Cause.TheVariants as cause
use Rattle.io_core.specs.declared.traits.Files.{Ghosts as Files}
use Rattle.io_core.specs.declared.traits.Sink.{Ghosts as Sink}
use Rattle.trigger_group.specs.declared.order.End.TheVariants.{Endstop, Expired, NoSwitch}
use Rattle.trigger_group.specs.Kept.{BoardsRise}
use Rattle.trigger_group.specs.Group.{answer, ended, expired, first_expired, first_switched, has_fired, or_else, or_none, switched}
use Rattle.axis_homing.specs.Rising.{HomingRises}
use Rattle.session_lanes.specs.declared.near.Told.{Told}
use Rattle.session_run.specs.declared.tell.Kept.{Kept}
use Rattle.session_run.specs.Boards.{came_from, came_in}
use Rattle.session_run.specs.Runs.{RunsOver}
use Rattle.laws_homing.proofs.clear_boards.Keeping.{hears_keep}
use Rattle.laws_homing.proofs.home_runs.Joining.{known_rises, noted_rises}
use Rattle.laws_homing.specs.switch_runs.Reports.{WasReported}
use Rattle.laws_homing.proofs.fired_runs.Reported.{Each, all_told}
use Rattle.laws_homing.proofs.missed_groups.Answering.{Missed, else_none, fired_some, missed, none_expired, none_switched, rest_missed}
use Rattle.laws_homing.proofs.missed_groups.Axes.{of_axis}
use Rattle.laws_run.specs.clear_homes.First.{HaveTold, IsFirstExpired, IsFirstOf, IsUnswitched, NoneSwitched}
use Rattle.laws_run.proofs.clear_homes.Expired.{ended_so, expired_of, goes_so, missed_of}

or_cases : (x y : Option End) (z : End) → or_else x y ≡ Some z → (x ≡ Some z) ⊎ ((x ≡ None) × (y ≡ Some z))
or_cases None y z e = inr (refl, e)
or_cases (Some w) y z e = inl e

expired_if : (c : Bool) (board b turn at : ℕ) → cond c (Some (Expired board at)) None ≡ Some (Expired b turn) → (c ≡ true) × (board ≡ b) × (at ≡ turn)
expired_if true board b turn at e = let f : Some (Expired board at) ≡ Some (Expired b turn) = e in (refl, (cc), (cc))
expired_if false board b turn at e = absurd (let f : None ≡ Some (Expired b turn) = e in cc)

-- one that expired
here_expired : (last board b turn : ℕ) (o : Option Fired) → expired last board o ≡ Some (Expired b turn) → (f : Fired) × (o ≡ Some f) × (board ≡ b) × (f.reason ≡ 2) × (f.turn ≡ turn) × (f.turn ≤ last)
here_expired last board b turn o p5 = search (rules, expired_if, nat_le, both_parts, eqb_tells, leb_tells)

-- of all members
all_have : (W : ℕ → Fired → Type 0) (own : ℕ) (xs : List Seen) → Each W own xs → all_fired xs ≡ true → HaveTold W (map (λ (x : Seen). x.member) xs)
all_have W own [] each all = tt
all_have W own (x ∷ xs) each all =
    let parts = both_parts (has_fired x.fired) (all_fired xs) all in
    let some = fired_some x.fired parts.0 in
    ((some.0, each.0.0 some.0 some.1), all_have W own xs each.1 parts.1)

first_of : (W : ℕ → Fired → Type 0) (own last b turn : ℕ) (xs : List Seen) → Each W own xs → all_fired xs ≡ true → first_expired last xs ≡ Some (Expired b turn) → IsFirstOf W last b turn (map (λ (x : Seen). x.member) xs)
first_of W own last b turn [] each all e = absurd (let f : None ≡ Some (Expired b turn) = e in cc)
first_of W own last b turn (x ∷ xs) each all e =
    let parts = both_parts (has_fired x.fired) (all_fired xs) all in
    elim (or_cases (expired last x.member.board x.fired) (first_expired last xs) (Expired b turn) e) [
      | inl here ↦
          let y = here_expired last x.member.board b turn x.fired here in
          let f = y.0 in
          let board = y.2 in
          let reason = y.3 in
          let at = y.4 in
          let early = y.5 in
          record {
            ahead = [];
            at = x.member;
            behind = map (λ (z : Seen). z.member) xs;
            are = refl;
            board_is = board;
            tick = f.tick;
            told = subst (λ (z : ℕ × Fired). W z.0 z.1) (λ i. (board i, record { reason = reason i; tick = f.tick; turn = at i })) (each.0.0 f y.1);
            early = omega (arith, early, at);
            others = tt;
            later = all_have W own xs each.1 parts.1;
          }
      | inr more ↦
          let some = fired_some x.fired parts.0 in
          let rest = first_of W own last b turn xs each.1 parts.1 more.1 in
          record {
            ahead = x.member ∷ rest.ahead;
            at = rest.at;
            behind = rest.behind;
            are = ap (λ (z : List Member). x.member ∷ z) rest.are;
            board_is = rest.board_is;
            tick = rest.tick;
            told = rest.told;
            early = rest.early;
            others = ((some.0, each.0.0 some.0 some.1, λ two soon. none_expired last x.member.board x.fired some.0 some.1 more.0 two soon), rest.others);
            later = rest.later;
          }
    ]

-- the answer
abbrev NotExpired : Option End → Type 0
NotExpired None = Unit {0}
NotExpired (Some (Expired board turn)) = ⊥
NotExpired (Some end) = Unit {0}

switched_if : (c : Bool) (tick : ℕ) → NotExpired (cond c (Some (Endstop tick)) None)
switched_if true tick = tt
switched_if false tick = tt

switched_not : (e : Bool) (o : Option Fired) → NotExpired (switched e o)
switched_not e None = tt
switched_not e (Some f) = switched_if (e && (f.reason == 1)) f.tick

either_not : (x y : Option End) → NotExpired x → NotExpired y → NotExpired (or_else x y)
either_not None y a b = b
either_not (Some z) y a b = a

all_not : (xs : List Seen) → NotExpired (first_switched xs)
all_not [] = tt
all_not (x ∷ xs) = either_not (switched x.member.endstop x.fired) (first_switched xs) (switched_not x.member.endstop x.fired) (all_not xs)

expiry_of : (x y : Option End) (b turn : ℕ) → NotExpired y → or_none (or_else x y) ≡ Expired b turn → x ≡ Some (Expired b turn)
expiry_of None None b turn a e = absurd (let f : NoSwitch ≡ Expired b turn = e in cc)
expiry_of None (Some z) b turn a e = absurd (let f : z ≡ Expired b turn = e in subst (λ (w : End). NotExpired (Some w)) f a)
expiry_of (Some z) y b turn a e = let f : z ≡ Expired b turn = e in ap (λ (w : End). Some w) f

ended_if : (c : Bool) (x y : End) → cond c (Some x) None ≡ Some y → (c ≡ true) × (x ≡ y)
ended_if true x y e = (refl, cc)
ended_if false x y e = absurd (let f : None ≡ Some y = e in cc)

in_if : (c : Bool) (o : Option End) (y : End) → cond c o None ≡ Some y → o ≡ Some y
in_if true o y e = e
in_if false o y e = absurd (let f : None ≡ Some y = e in cc)

-- none of the members of a group that answers that no switch closed expired in time, nor read one
all_unswitched : (W : ℕ → Fired → Type 0) (own last : ℕ) (xs : List Seen) → Missed last xs → Each W own xs → NoneSwitched W last (map (λ (x : Seen). x.member) xs)
all_unswitched W own last [] k each = tt
all_unswitched W own last (x ∷ xs) k each =
    let some = fired_some x.fired (both_parts (has_fired x.fired) (all_fired xs) k.all).0 in
    let unexpired = (else_none (expired last x.member.board x.fired) (first_expired last xs) k.unexpired).0 in
    let unswitched = (else_none (switched x.member.endstop x.fired) (first_switched xs) k.unswitched).0 in (
      (
        some.0,
        each.0.0 some.0 some.1,
        λ two early. none_expired last x.member.board x.fired some.0 some.1 unexpired two early,
        λ is_end one. none_switched x.member.endstop x.fired some.0 is_end some.1 unswitched one,
      ),
      all_unswitched W own last xs (rest_missed last x xs k) each.1,
    )

module _ {F S : Type 0} (f : Files F) (o : Sink S) (m : Machine) (s : Scene) (name : List ℕ) (files files' : F) (out out' : S) (kept kept' : Kept) (t : Told Run) (r : RunsOver f o m s name files out kept t files' out' kept') where
  -- what is known of the homing section that is under way
  record Under (h : Homing) : Type 0 where
    rise : BoardsRise (members_of h.group)
    each : Each (λ b fired. WasReported m s.switches b h.start fired (came_in r.runs.2 ∷ came_from [] r.runs.1)) (axis_at m h.axis).board
        (hears_all (noted m r.runs.2.note (known_by m s.switches (came_from [] r.runs.1))).clocks r.runs.2.states h).group.members
    members : members_of (hears_all (noted m r.runs.2.note (known_by m s.switches (came_from [] r.runs.1))).clocks r.runs.2.states h).group ≡ members_of h.group
    last : (hears_all (noted m r.runs.2.note (known_by m s.switches (came_from [] r.runs.1))).clocks r.runs.2.states h).group.last ≡ h.group.last
    goes : GoesOn m s.switches (came_from [] r.runs.1)

  under : (h : Homing) → (noted m r.runs.2.note (known_by m s.switches (came_from [] r.runs.1))).homing ≡ Some h → Under h
  under h is =
      let came = came_from [] r.runs.1 in
      let last = r.runs.2 in
      let n = noted m last.note (known_by m s.switches came) in
      let goes = goes_so f o m s name files files' out out' kept kept' t r in
      let rises : HomingRises (Some h) = subst HomingRises is (noted_rises m last.note (known_by m s.switches came) (known_rises m s.switches came goes)) in
      record {
        rise = rises;
        each = all_told m s.switches (came_in last) came h goes is;
        members = states-kept n.clocks 0 h.start last.states h.group;
        last = (hears_keep n.clocks last.states h).last;
        goes = goes;
      }

  pub run_first : (board turn : ℕ) → t.cause ≡ cause.Expired board turn → IsFirstExpired m s.switches board turn r.runs.1 r.runs.2
  run_first board turn e =
      let came = came_from [] r.runs.1 in
      let last = r.runs.2 in
      let n = noted m last.note (known_by m s.switches came) in
      let is = expired_of n.clocks (length came) board turn last.states n.homing (ended_so f o m s name files files' out out' kept kept' t r (cause.Expired board turn) e (λ g. cc) tt).1 in
      let h = is.0 in
      let u = under h is.1 in
      let g = (hears_all n.clocks last.states h).group in
      let W : ℕ → Fired → Type 0 = λ b fired. WasReported m s.switches b h.start fired (came_in last ∷ came) in
      let y = ended_if (all_fired g.members) (answer g) (Expired board turn) (in_if (nat_le h.start (length came)) (ended g) (Expired board turn) is.2) in
      let z = expiry_of (first_expired g.last g.members) (first_switched g.members) board turn (all_not g.members) y.1 in
      let first = first_of W (axis_at m h.axis).board g.last board turn g.members u.each y.0 z in
      let Out : List Member → Type 0 = λ ms. IsFirstOf W g.last board turn ms in
      let At : ℕ → Type 0 = λ k. IsFirstOf W k board turn (members_of h.group) in
      record { homing = h; known = is.1; rise = u.rise; first = subst At u.last (subst Out u.members first) }

  pub run_unswitched : (section : ℕ) → t.cause ≡ cause.NoSwitch section → IsUnswitched m s.switches section r.runs.1 r.runs.2
  run_unswitched section e =
      let came = came_from [] r.runs.1 in
      let last = r.runs.2 in
      let n = noted m last.note (known_by m s.switches came) in
      let is = missed_of n.clocks (length came) section last.states n.homing (ended_so f o m s name files files' out out' kept kept' t r (cause.NoSwitch section) e (λ g. cc) tt).1 in
      let h = is.0 in
      let u = under h is.1 in
      let g = (hears_all n.clocks last.states h).group in
      let W : ℕ → Fired → Type 0 = λ b fired. WasReported m s.switches b h.start fired (came_in last ∷ came) in
      let none = all_unswitched W (axis_at m h.axis).board g.last g.members (missed (length came) h.start g is.2) u.each in
      let Out : List Member → Type 0 = λ ms. NoneSwitched W g.last ms in
      let At : ℕ → Type 0 = λ k. NoneSwitched W k (members_of h.group) in
      record {
        homing = h;
        known = is.1;
        number = sym is.3;
        rise = u.rise;
        reader = (of_axis m s.switches (came_in last) came u.goes h is.1).1;
        none = subst At u.last (subst Out u.members none);
      }
