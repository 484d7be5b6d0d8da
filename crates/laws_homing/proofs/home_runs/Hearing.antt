-- What a homing group hears of a member that could trigger, over a run.
use Rattle.std.proofs.Common.{◌≡◌, ℕ, ◌+◌, ◌++◌, ◌≤◌, inl, inr, Bool, true, false, cond, List, [], ◌∷◌, length, map, Option, Some, None, sym, ◌∙◌, subst, arith}
use Rattle.laws_board.proofs.Names.{Level, Machine, SectionKind, Moves, Home, Clocks, IsValidMachine, axis_at, clocks_at, News, Note, NoteNews, Entry, Switch, End, Member, Seen, unseen, Homing, answer_in, goes_on_homing, hears_all, homing_after, members_from, members_of, Known, noted, known_behind, told_all, Reacted, Came, GoesOn, known_by, states-kept}
use Rattle.msg_code.specs.declared.talk.NoteNews.TheVariants as news
use Rattle.trigger_group.specs.Group.{new_group}
use Rattle.trigger_group.specs.Kept.{may_be}
use Rattle.trigger_group.proofs.Answering.{none_there}
use Rattle.trigger_group.proofs.Bounds.{UpTo, by_heard}
use Rattle.trigger_group.proofs.Knows.{after_members}
use Rattle.axis_homing.specs.Homing.{homing_of, homing_with}
use Rattle.laws_board.specs.turns.Turns.{BoardTurn}
use Rattle.laws_board.proofs.clocks.Controls.{states_start}
use Rattle.laws_board.proofs.clocks.Turning.{goes}
use Rattle.laws_homing.specs.clear_boards.Hearing.{TellAble}
use Rattle.laws_homing.specs.clear_groups.Early.{HeardUntil}
use Rattle.laws_homing.specs.home_runs.Sections.{HomesFrom, IsOf}
use Rattle.laws_homing.specs.home_runs.SetUps.{IsBoundIn, StopsAt}
use Rattle.laws_homing.specs.home_runs.Timeouts.{BeginsBy, CouldUpTo, TakesSent, known_in}
use Rattle.laws_homing.specs.home_runs.Told.{IsMember}
use Rattle.laws_homing.proofs.clear_groups.Noticing.{AllAbleBy, hears_until}
use Rattle.laws_homing.proofs.home_runs.Timeouts.{AllWithinFrom, stops_under}

able_by : (clocks : Clocks) (turn most : ℕ) (ns : List News) → ((when : ℕ) → TellAble clocks turn when ns → when ≤ most)
    → AllAbleBy clocks turn most ns
able_by clocks turn most [] f = tt
able_by clocks turn most (n ∷ ns) f = (λ when a. f when (inl a), able_by clocks turn most ns (λ when a. f when (inr a)))

up_to : (b start u : ℕ) (xs : List Seen) → HeardUntil start b u xs → IsMember b (map (λ (x : Seen). x.member) xs)
    → UpTo b start u xs
up_to b start u [] k is = absurd is
up_to b start u (x ∷ xs) k (inl e) = inl (e, k.0 e)
up_to b start u (x ∷ xs) k (inr is) = inr (up_to b start u xs k.1 is)

-- a section with this start, and a turn from it on
module _ (m : Machine) (switches : List Switch) (b start u : ℕ) (late : start ≤ u) where
  abbrev pub HeardSo : Option Homing → Type 0
  HeardSo None = Unit {0}
  HeardSo (Some h) = h.start ≡ start → HeardUntil start b u h.group.members

  unseen_so : (ms : List Member) → HeardUntil start b u (map unseen ms)
  unseen_so [] = tt
  unseen_so (x ∷ ms) = (λ is. late, unseen_so ms)

  -- a section is begun
  begun_if : (c : Bool) (section axis turn at last : ℕ) (ms : List Member)
      → HeardSo (homing_with section axis turn (cond c (Some (new_group ms at last)) None))
  begun_if true section axis turn at last ms = λ e. unseen_so ms
  begun_if false section axis turn at last ms = tt

  begun_so : (section : ℕ) (kind : SectionKind) (turn last moving : ℕ)
      → HeardSo (homing_of m section kind turn last moving)
  begun_so section Moves turn last moving = tt
  begun_so section (Home axis) turn last moving =
      let ms = members_from m (axis_at m axis) moving 0 m.boards in
      begun_if (may_be (map unseen ms) turn last) section axis turn turn last ms

  told_so : (r : Known) (n : NoteNews) → HeardSo r.homing → HeardSo (known_behind m r n).homing
  told_so r (news.Start section kind turn last moving) k = begun_so section kind turn last moving
  told_so r c k = k

  all_told_so : (ns : List NoteNews) (r : Known) → HeardSo r.homing → HeardSo (told_all m ns r).homing
  all_told_so [] r k = k
  all_told_so (n ∷ ns) r k = all_told_so ns (known_behind m r n) (told_so r n k)

  pub noted_so : (note : Option Note) (r : Known) → HeardSo r.homing → HeardSo (noted m note r).homing
  noted_so None r k = k
  noted_so (Some note) r k = all_told_so note.news r k

  -- the states come
  pub heard_so : (c : Came) (before : List Came) (h : Homing) → CouldUpTo m switches b start u (c ∷ before)
      → HeardSo (Some h)
      → HeardSo (Some (hears_all (known_in m switches c before).clocks c.states h))
  heard_so c before h could k = λ e.
      let clocks = (known_in m switches c before).clocks in
      hears_until start u b clocks c.states h
      (λ s is counts. able_by (clocks_at clocks b) s.turn u s.news (λ when a. could.0 s when is (omega (arith, counts, e)) a)) (k e)

  goes_so : (k : ℕ) (h : Homing) (o : Option End) → HeardSo (Some h) → HeardSo (goes_on_homing k h o)
  goes_so k h None s = λ e. subst (HeardUntil start b u) (sym (after_members h.group k)) (s e)
  goes_so k h (Some end) s = tt

  after_so : (c : Came) (before : List Came) (o : Option Homing) → CouldUpTo m switches b start u (c ∷ before)
      → HeardSo o
      → HeardSo (homing_after (known_in m switches c before).clocks (length before) c.states o)
  after_so c before None could s = tt
  after_so c before (Some h) could s =
      let g = hears_all (known_in m switches c before).clocks c.states h in
      goes_so (length before) g (answer_in (length before) g.start g.group) (heard_so c before h could s)

  pub known_so : (came : List Came) → GoesOn m switches came → CouldUpTo m switches b start u came
      → HeardSo (known_by m switches came).homing
  known_so [] g could = tt
  known_so (c ∷ before) g could =
      let known = known_by m switches before in
      let n = known_in m switches c before in
      let was : HeardSo n.homing = noted_so c.note known (known_so before g.1 could.1) in
      let So : Reacted → Type 0 = λ y. HeardSo y.known.homing in
      elim (goes m switches known (length before) c.states c.note g.0) [
        | inl x ↦ subst So (sym x.is) was
        | inr later ↦ elim later [ inl x ↦ subst So (sym x.is) was | inr x ↦ subst So (sym x.is) (after_so c before n.homing could was) ]
      ]

  -- what it sends then
  pub heard_within : (from : ℕ) (ms : List Member) (came : List Came) → GoesOn m switches came
      → HomesFrom m switches from start ms came
      → IsMember b ms → CouldUpTo m switches b start u came → AllWithinFrom m switches from (u + 25) came
  heard_within from ms [] g homes member could = tt
  heard_within from ms (c ∷ before) g homes member could = (
    λ since h is. (
        let n = known_in m switches c before in
        let now = hears_all n.clocks c.states h in
        let of : IsOf start ms (Some h) = subst (IsOf start ms) is (homes.0 since).1 in
        let was : HeardSo (Some h) = subst HeardSo is (noted_so c.note (known_by m switches before) (known_so before g.1 could.1)) in
        let begins : now.group.start ≡ start = states_start n.clocks 0 h.start c.states h.group ∙ of.1 in
        let members : members_of now.group ≡ ms = states-kept n.clocks 0 h.start c.states h.group ∙ of.2 in
        let heard = up_to b start u now.group.members (heard_so c before h could was of.0) (subst (IsMember b) (sym members) member) in
        by_heard ([] ∷ []) (length before) b u now.group (omega (arith, begins, late)) (λ q there. absurd (none_there q there))
        (subst (λ (s : ℕ). UpTo b s u now.group.members) (sym begins) heard)),
    heard_within from ms before g.1 homes.1 member could.1,
  )

pub stops_by_heard : (m : Machine) (switches : List Switch) (pins : List (List Level)) (entries : List Entry)
    (b s other : ℕ) (came : List Came)
    (later : List BoardTurn) (t : BoardTurn) (between early : List BoardTurn) (from start u most : ℕ) (ms : List Member) → IsValidMachine m
    → IsBoundIn m switches pins entries b s came later t between early from start ms
    → TakesSent m switches pins entries b came (later ++ t ∷ (between ++ early)) early
    → IsMember other ms → start ≤ u → CouldUpTo m switches other start u came
    → BeginsBy m switches b from (u + 25) most came
    → StopsAt m pins entries b s most (later ++ t ∷ (between ++ early)) (between ++ early)
stops_by_heard m switches pins entries b s other came later t between early from start u most ms v x soon member late could begins =
    stops_under m switches pins entries b s came later t between early from start (u + 25) most ms v x soon
    (heard_within m switches other start u late from ms came x.run_is.goes_on x.homes member could) begins
