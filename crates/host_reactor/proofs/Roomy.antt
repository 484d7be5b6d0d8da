-- Of any three turns in a row one leaves room for an asking of the clock.
use Rattle.std.proofs.Common.{◌≡◌, ◌≤◌, ◌<◌, ◌⊎◌, inl, inr, ℕ, ◌+◌, Bool, true, false, cond, List, [], ◌∷◌, length, map, Option, Some, None, refl, sym, ◌∙◌, subst, arith}
use Rattle.plan_types.specs.declared.machine.Machine.{Machine}
use Rattle.plan_types.specs.declared.plan.SectionKind.{SectionKind}
use Rattle.plan_types.specs.declared.plan.SectionKind.TheVariants as kind
use Rattle.plan_types.specs.Lines.{Clocks}
use Rattle.plan_types.specs.Machines.{IsValidMachine, axis_at}
use Rattle.plan_types.specs.Sections.{clocks_at}
use Rattle.msg_code.specs.declared.talk.State.{State}
use Rattle.msg_code.specs.declared.talk.Note.{Note}
use Rattle.msg_code.specs.declared.talk.NoteNews.{NoteNews}
use Rattle.msg_code.specs.declared.talk.NoteNews.TheVariants as news
use Rattle.wire_scene.specs.declared.scene.Switch.{Switch}
use Rattle.trigger_group.specs.declared.order.End.{End}
use Rattle.trigger_group.specs.declared.order.End.TheVariants as end
use Rattle.trigger_group.specs.declared.order.Member.{Member}
use Rattle.trigger_group.specs.Group.{new_group, unseen}
use Rattle.trigger_group.specs.Kept.{may_be}
use Rattle.board_asking.specs.Drift.{bytes_of}
use Rattle.axis_homing.specs.declared.homing.Homing.{Homing}
use Rattle.axis_homing.specs.Homing.{answer_in, by_answer, goes_on_homing, hears_all, homing_after, homing_of, homing_turn, homing_with, members_from}
use Rattle.axis_homing.specs.Rising.{HomingRises, IsRising}
use Rattle.axis_homing.specs.Room.{MayFill}
use Rattle.axis_homing.proofs.Room.{leaves-room}
use Rattle.axis_homing.proofs.Rises.{hears-rises}
use Rattle.axis_homing.proofs.Starts.{after_start, states_start}
use Rattle.host_reactor.specs.declared.ordered.Known.{Known}
use Rattle.host_reactor.specs.Notes.{known_behind, told_all, noted, news_of}
use Rattle.host_reactor.specs.Reactor.{homing_commands}
use Rattle.host_reactor.specs.Room.{HasOrderRoom, HaveRoom, StartFar, BeginFar}
use Rattle.host_reactor.specs.Runs.{Came, known_by}
use Rattle.host_reactor.proofs.Fitting.{noted-rises, run-rises}
use Rattle.host_reactor.proofs.Homes.{turn-leaves}

-- the turn in which the group of a homing section starts; 0 where there is none
abbrev start_of : Option Homing → ℕ
start_of None = 0
start_of (Some h) = h.group.start

answer-room : (o : Option End) (m : Machine) (l : Clocks) (b k : ℕ) (h : Homing) → IsValidMachine m → IsRising h.group → (bytes_of (homing_commands m (by_answer k h o) l b) < 42) ⊎ MayFill h.group.start k
answer-room None m l b k h v r = leaves-room m l b h.start (axis_at m h.axis) h.group k v r
answer-room (Some (end.Endstop tick)) m l b k h v r = inl (omega arith)
answer-room (Some end.NoSwitch) m l b k h v r = inl (omega arith)
answer-room (Some (end.Expired board turn)) m l b k h v r = inl (omega arith)

-- a turn leaves room, or is one of three before the start of the section that is known
turn-room : (m : Machine) (clocks : List Clocks) (l : Clocks) (b k : ℕ) (states : List State) (o : Option Homing) → IsValidMachine m → HomingRises o
    → (bytes_of (homing_commands m (homing_turn clocks k states o) l b) < 42) ⊎ MayFill (start_of o) k
turn-room m clocks l b k states None v r = inl (omega arith)
turn-room m clocks l b k states (Some h) v r =
    let g = hears_all clocks states h in
    let same : g.group.start ≡ h.group.start = states_start clocks 0 h.start states h.group in
    elim (answer-room (answer_in k g.start g.group) m l b k g v (hears-rises clocks states h r)) [ inl room ↦ inl room | inr fills ↦ inr (subst (λ (s : ℕ). MayFill s k) same fills) ]

-- a later section starts when an earlier one did, or there is none, or it starts far off
abbrev Keeps : ℕ → ℕ → ℕ → Type 0
Keeps far old new = (new ≡ old) ⊎ ((new ≡ 0) ⊎ (far ≤ new))

goes-keep : (far old k : ℕ) (h : Homing) (o : Option End) → Keeps far old h.group.start → Keeps far old (start_of (goes_on_homing k h o))
goes-keep far old k h None keep = subst (λ (s : ℕ). Keeps far old s) (sym (after_start h.group k)) keep
goes-keep far old k h (Some e) keep = inr (inl refl)

after-keep : (far old : ℕ) (clocks : List Clocks) (k : ℕ) (states : List State) (o : Option Homing) → Keeps far old (start_of o) → Keeps far old (start_of (homing_after clocks k states o))
after-keep far old clocks k states None keep = keep
after-keep far old clocks k states (Some h) keep =
    let g = hears_all clocks states h in
    let same : g.group.start ≡ h.group.start = states_start clocks 0 h.start states h.group in
    goes-keep far old k g (answer_in k g.start g.group) (subst (λ (s : ℕ). Keeps far old s) (sym same) keep)

-- sections that notes begin
formed-far : (far old section axis turn start last : ℕ) (c : Bool) (ms : List Member) → far ≤ start → Keeps far old (start_of (homing_with section axis turn (cond c (Some (new_group ms start last)) None)))
formed-far far old section axis turn start last true ms l = inr (inr l)
formed-far far old section axis turn start last false ms l = inr (inl refl)

begun-far : (far old : ℕ) (m : Machine) (section : ℕ) (what : SectionKind) (turn last moving : ℕ) → far ≤ turn → Keeps far old (start_of (homing_of m section what turn last moving))
begun-far far old m section kind.Moves turn last moving l = inr (inl refl)
begun-far far old m section (kind.Home axis) turn last moving l =
    let ms = members_from m (axis_at m axis) moving 0 m.boards in
    formed-far far old section axis turn turn last (may_be (map unseen ms) turn last) ms l

told-keep : (k old : ℕ) (m : Machine) (ns : List NoteNews) (r : Known) → StartFar k ns → Keeps (k + 255) old (start_of r.homing) → Keeps (k + 255) old (start_of (told_all m ns r).homing)
told-keep k old m [] r far keep = keep
told-keep k old m (news.Start section what turn last moving ∷ ns) r far keep =
    told-keep k old m ns (known_behind m r (news.Start section what turn last moving)) far.1 (begun-far (k + 255) old m section what turn last moving far.0)
told-keep k old m (news.Done section turn ∷ ns) r far keep = told-keep k old m ns (known_behind m r (news.Done section turn)) far keep
told-keep k old m (news.Read x sections ∷ ns) r far keep = told-keep k old m ns (known_behind m r (news.Read x sections)) far keep
told-keep k old m (news.Line board line from ∷ ns) r far keep = told-keep k old m ns (known_behind m r (news.Line board line from)) far keep

noted-keep : (k old : ℕ) (m : Machine) (note : Option Note) (r : Known) → StartFar k (news_of note) → Keeps (k + 255) old (start_of r.homing) → Keeps (k + 255) old (start_of (noted m note r).homing)
noted-keep k old m None r far keep = keep
noted-keep k old m (Some note) r far keep = told-keep k old m note.news r far keep

-- the section that is known in a turn, and that of the turn before it
abbrev known_in : Machine → List Switch → Came → List Came → Known
known_in m switches c before = noted m c.note (known_by m switches before)

abbrev starts_in : Machine → List Switch → Came → List Came → ℕ
starts_in m switches c before = start_of (known_in m switches c before).homing

next-keeps : (m : Machine) (switches : List Switch) (c d : Came) (before : List Came) → StartFar (length (d ∷ before)) (news_of c.note)
    → Keeps (length (d ∷ before) + 255) (starts_in m switches d before) (starts_in m switches c (d ∷ before))
next-keeps m switches c d before far =
    let k = length (d ∷ before) in
    let r = known_by m switches before in
    let n = known_in m switches d before in
    let old = start_of n.homing in
    noted-keep k old m c.note (known_by m switches (d ∷ before)) far
    (turn-leaves (λ (o : Option Homing). Keeps (k + 255) old (start_of o)) m switches r (length before) d.states d.note (inl refl) (after-keep (k + 255) old n.clocks (length before) d.states n.homing (inl refl)))

-- numbers of turns
fill-bounds : (start turn : ℕ) → MayFill start turn → (turn + 251 ≤ start) × (start ≤ turn + 254)
fill-bounds start turn (inl e) = (omega (arith, e), omega (arith, e))
fill-bounds start turn (inr (inl e)) = (omega (arith, e), omega (arith, e))
fill-bounds start turn (inr (inr e)) = (omega (arith, e), omega (arith, e))

fills-same : (turn old new : ℕ) → Keeps (turn + 255) old new → MayFill new turn → new ≡ old
fills-same turn old new keep fills =
    let low = (fill-bounds new turn fills).0 in
    let high = (fill-bounds new turn fills).1 in
    elim keep [ inl e ↦ e | inr other ↦ elim other [ inl none ↦ absurd (omega (arith, none, low)) | inr far ↦ absurd (omega (arith, far, high)) ] ]

-- three turns in a row are not all among the three before one start
not-three : (start k : ℕ) → MayFill start k → MayFill start (k + 1) → MayFill start (k + 2) → ⊥
not-three start k (inl e) f (inl g) = omega (arith, e, g)
not-three start k (inl e) f (inr (inl g)) = omega (arith, e, g)
not-three start k (inl e) f (inr (inr g)) = omega (arith, e, g)
not-three start k (inr (inl e)) (inl f) g = omega (arith, e, f)
not-three start k (inr (inl e)) (inr (inl f)) g = omega (arith, e, f)
not-three start k (inr (inl e)) (inr (inr f)) g = omega (arith, e, f)
not-three start k (inr (inr e)) (inl f) g = omega (arith, e, f)
not-three start k (inr (inr e)) (inr (inl f)) g = omega (arith, e, f)
not-three start k (inr (inr e)) (inr (inr f)) g = omega (arith, e, f)

in-turn : (m : Machine) (switches : List Switch) (b : ℕ) (c : Came) (before : List Came) → IsValidMachine m → HasOrderRoom m switches b c before ⊎ MayFill (starts_in m switches c before) (length before)
in-turn m switches b c before v =
    let r = known_by m switches before in
    let n = known_in m switches c before in
    turn-room m n.clocks (clocks_at n.clocks b) b (length before) c.states n.homing v (noted-rises m c.note r (run-rises m switches before v))

one-of-three : (m : Machine) (switches : List Switch) (b : ℕ) (c d e : Came) (before : List Came) → IsValidMachine m → BeginFar (c ∷ (d ∷ (e ∷ before)))
    → HasOrderRoom m switches b c (d ∷ (e ∷ before)) ⊎ (HasOrderRoom m switches b d (e ∷ before) ⊎ HasOrderRoom m switches b e before)
one-of-three m switches b c d e before v far = elim (in-turn m switches b c (d ∷ (e ∷ before)) v) [
  | inl room ↦ inl room
  | inr third ↦ elim (in-turn m switches b d (e ∷ before) v) [
    | inl room ↦ inr (inl room)
    | inr second ↦ elim (in-turn m switches b e before v) [
      | inl room ↦ inr (inr room)
      | inr first ↦
          let k = length before in
          let start = starts_in m switches e before in
          let next = starts_in m switches d (e ∷ before) in
          let last = starts_in m switches c (d ∷ (e ∷ before)) in
          let one : next ≡ start = fills-same (length (e ∷ before)) start next (next-keeps m switches d e before far.1.0) second in
          let two : last ≡ next = fills-same (length (d ∷ (e ∷ before))) next last (next-keeps m switches c d (e ∷ before) far.0) third in
          absurd (not-three start k first (fills-at start next (length (e ∷ before)) (k + 1) one (omega arith) second) (fills-at start last (length (d ∷ (e ∷ before))) (k + 2) (two ∙ one) (omega arith) third))
    ]
  ]
]
  where
    fills-at : (start other turn k : ℕ) → other ≡ start → turn ≡ k → MayFill other turn → MayFill start k
    fills-at start other turn k e f fills = subst (λ (s : ℕ). MayFill s k) e (subst (λ (t : ℕ). MayFill other t) f fills)

pub all-have : (m : Machine) (switches : List Switch) (b : ℕ) (came : List Came) → IsValidMachine m → BeginFar came → HaveRoom m switches b came
all-have m switches b [] v far = tt
all-have m switches b (c ∷ []) v far = tt
all-have m switches b (c ∷ (d ∷ [])) v far = tt
all-have m switches b (c ∷ (d ∷ (e ∷ before))) v far = (one-of-three m switches b c d e before v far, all-have m switches b (d ∷ (e ∷ before)) v far.1)
