-- A homing section that is known has been known since it was begun.
use Rattle.std.proofs.Common.{◌≡◌, ℕ, ◌+◌, ◌-◌, ◌<◌, ◌≤◌, inl, inr, List, [], ◌∷◌, length, Option, Some, None, refl, ap, sym, ◌∙◌, subst, arith}
use Rattle.laws_board.proofs.Names.{eqb_tells, leb_tells, Level, Machine, Clocks, IsValidMachine, clocks_at, Entry, Switch, End, Member, Homing, answer_in, hears_all, members_of, Connecting, news_of, noted, Came, known_by}
use Rattle.laws_board.specs.turns.Turns.{BoardTurn}
use Rattle.laws_board.specs.clocks.Runs.{IsInRun}
use Rattle.laws_board.proofs.clocks.Lines.{noted_phase, run_before}
use Rattle.laws_homing.specs.home_runs.Sections.{HomesFrom, IsOf}
use Rattle.laws_homing.proofs.home_runs.Knowing.{noted_none}
use Rattle.laws_homing.specs.switch_runs.Runs.{KnewSo}
use Rattle.laws_homing.proofs.clear_groups.Known.{behind_turn}
use Rattle.laws_homing.proofs.clear_groups.Noted.{noted_newly, some_or_none}
use Rattle.laws_homing.proofs.clear_groups.Resting.{Together, clash, known_together, newly_together, next_of, some_same}
use Rattle.laws_homing.specs.fired_runs.Since.{BeginsApart}
use Rattle.laws_homing.proofs.fired_runs.Rested.{answered_over, goes_to, group_start, none_stays, same_members, same_start}

-- from a turn on the homing section that is known is of an axis
abbrev pub AxisFrom : Machine → List Switch → ℕ → ℕ → List Came → Type 0
AxisFrom m switches from axis [] = Unit {0}
AxisFrom m switches from axis (c ∷ before) = (from ≤ length before → (g : Homing) → (noted m c.note (known_by m switches before)).homing ≡ Some g → g.axis ≡ axis) × AxisFrom m switches from axis before

-- so it is known in a turn from there on, and with it a board's clock lines
pub knew_at : (m : Machine) (switches : List Switch) (b from at start axis : ℕ) (ms : List Member) (came : List Came) → from ≤ at → at < length came → HomesFrom m switches from start ms came → AxisFrom m switches from axis came
    → (lines : Clocks) × KnewSo m switches b at start axis lines came
knew_at m switches b from at start axis ms [] low high homes axes = absurd (omega (arith, high))
knew_at m switches b from at start axis ms (c ∷ before) low high homes axes = elim (eqb_tells (length before) at) [
  | inl p ↦ (let here = p.1 in by here (noted m c.note (known_by m switches before)).homing refl (homes.0 (omega (arith, here, low))).1 (axes.0 (omega (arith, here, low))))
  | inr p ↦ (let rest = knew_at m switches b from at start axis ms before low (less (length before) at p.1 (omega (arith, high))) homes.1 axes.1 in (rest.0, inr rest.1))
]
  where
    less : (k n : ℕ) → (k ≡ n → ⊥) → n < k + 1 → n < k
    less k n other l = elim (leb_tells (n + 1) k) [ inl q ↦ (let e = q.1 in omega (arith, e)) | inr q ↦ absurd (let e = q.1 in other (omega (arith, e, l))) ]

    by : length before ≡ at → (o : Option Homing) → (noted m c.note (known_by m switches before)).homing ≡ o → IsOf start ms o → ((g : Homing) → (noted m c.note (known_by m switches before)).homing ≡ Some g → g.axis ≡ axis)
        → (lines : Clocks) × KnewSo m switches b at start axis lines (c ∷ before)
    by here None e k axis_of = absurd k
    by here (Some g) e k axis_of = (clocks_at (noted m c.note (known_by m switches before)).clocks b, inl (here, record { homing = g; known = e; start_is = k.0; axis_is = axis_of g e; lines_are = refl }))

module _ (m : Machine) (v : IsValidMachine m) (switches : List Switch) (pins : List (List Level)) (entries : List Entry) (b : ℕ) where
  homes_none : (from start : ℕ) (ms : List Member) (came : List Came) → length came ≤ from → HomesFrom m switches from start ms came
  homes_none from start ms [] l = tt
  homes_none from start ms (c ∷ before) l = (λ late. absurd (omega (arith, l, late)), homes_none from start ms before (omega (arith, l)))

  axes_none : (from axis : ℕ) (came : List Came) → length came ≤ from → AxisFrom m switches from axis came
  axes_none from axis [] l = tt
  axes_none from axis (c ∷ before) l = (λ late. absurd (omega (arith, l, late)), axes_none from axis before (omega (arith, l)))

  -- a section that is known behind some turns
  record Since (came : List Came) (h : Homing) : Type 0 where
    open_it : (known_by m switches came).phase ≡ Connecting → ⊥
    together : h.group.start ≡ h.start
    far : 251 ≤ h.start
    homes : HomesFrom m switches (h.start - 251) h.start (members_of h.group) came
    axes : AxisFrom m switches (h.start - 251) h.axis came

  -- and in a turn
  pub record Now (d : Came) (past : List Came) (h : Homing) : Type 0 where
    pub open_it : (known_by m switches past).phase ≡ Connecting → ⊥
    pub together : h.group.start ≡ h.start
    pub far : 251 ≤ h.start
    pub homes : HomesFrom m switches (h.start - 251) h.start (members_of h.group) (d ∷ past)
    pub axes : AxisFrom m switches (h.start - 251) h.axis (d ∷ past)

  now_by : (d : Came) (past : List Came) → BeginsApart m switches (d ∷ past) → ((h : Homing) → (known_by m switches past).homing ≡ Some h → Since past h) → (h : Homing)
      → (noted m d.note (known_by m switches past)).homing ≡ Some h → h.group.start ≡ h.start → Now d past h
  now_by d past apart was h is together =
      let known = known_by m switches past in
      let own : (g : Homing) → (noted m d.note known).homing ≡ Some g → g.axis ≡ h.axis = λ g e. ap (λ (z : Homing). z.axis) (some_same g h (sym e ∙ is)) in
      let here : IsOf h.start (members_of h.group) (noted m d.note known).homing = subst (λ (o : Option Homing). IsOf h.start (members_of h.group) o) (sym is) (refl, together, refl) in
      elim apart.0 [
        | inl none ↦ (let w = was h (sym (noted_none m d.note known none) ∙ is) in record { open_it = w.open_it; together = together; far = w.far; homes = (λ l. (w.open_it, here), w.homes); axes = (λ l. own, w.axes) })
        | inr begun ↦
            let x = begun.1 h is in
            let far = x.1 in
            record { open_it = x.0; together = together; far = omega (arith, far); homes = (λ l. (x.0, here), homes_none (h.start - 251) h.start (members_of h.group) past (omega (arith, far))); axes = (λ l. own, axes_none (h.start - 251) h.axis past (omega (arith, far))) }
      ]

  step : (d : Came) (past : List Came) (t : BoardTurn) (turns : List BoardTurn) → IsInRun m switches pins entries b (d ∷ past) (t ∷ turns) → BeginsApart m switches (d ∷ past)
      → ((h : Homing) → (known_by m switches past).homing ≡ Some h → Since past h) → (h : Homing) → (known_by m switches (d ∷ past)).homing ≡ Some h → Since (d ∷ past) h
  step d past t turns r apart was h is = by (noted m d.note (known_by m switches past)).homing refl
    where
      by : (o : Option Homing) → (noted m d.note (known_by m switches past)).homing ≡ o → Since (d ∷ past) h
      by None e = absurd (clash (known_by m switches (d ∷ past)).homing h (none_stays m v switches pins entries b d past t turns r apart e) is)
      by (Some g) e = go (now_by d past apart was g e (group_start m v switches pins entries b d past t turns r apart g e))
        where
          n_phase : (Now d past g) → (noted m d.note (known_by m switches past)).phase ≡ Connecting → ⊥
          n_phase w p = w.open_it (sym (noted_phase m d.note (known_by m switches past)) ∙ p)

          go : Now d past g → Since (d ∷ past) h
          go w = ends (answer_in (length past) g.start (hears_all (noted m d.note (known_by m switches past)).clocks d.states g).group) refl
            where
              ends : (o : Option End) → answer_in (length past) g.start (hears_all (noted m d.note (known_by m switches past)).clocks d.states g).group ≡ o → Since (d ∷ past) h
              ends (Some x) f = absurd (clash (known_by m switches (d ∷ past)).homing h (answered_over m v switches pins entries b d past t turns r apart g e (n_phase w) x f) is)
              ends None f =
                  let heard = hears_all (noted m d.note (known_by m switches past)).clocks d.states g in
                  let same : behind_turn heard (length past) ≡ h = some_same (behind_turn heard (length past)) h (sym (goes_to m v switches pins entries b d past t turns r apart g e (n_phase w) f) ∙ is) in
                  let members : members_of (behind_turn heard (length past)).group ≡ members_of g.group = same_members m v switches pins entries b d past t turns r apart g in
                  subst (λ (z : Homing). Since (d ∷ past) z) same (record {
                    open_it = (next_of m switches d past r.goes_on (n_phase w)).phase;
                    together = same_start m v switches pins entries b d past t turns r apart g w.together;
                    far = w.far;
                    homes = subst (λ (l : List Member). HomesFrom m switches (g.start - 251) g.start l (d ∷ past)) (sym members) w.homes;
                    axes = w.axes;
                  })

  since : (came : List Came) (turns : List BoardTurn) → IsInRun m switches pins entries b came turns → BeginsApart m switches came → (h : Homing) → (known_by m switches came).homing ≡ Some h → Since came h
  since [] turns r apart h is = absurd (clash (known_by m switches []).homing h refl is)
  since (d ∷ past) [] r apart h is = absurd r.both
  since (d ∷ past) (t ∷ turns) r apart h is = step d past t turns r apart (since past turns (run_before m switches pins entries b d past t turns r) apart.1) h is

  -- in the turn behind some turns
  pub known_since : (c : Came) (before : List Came) (turns : List BoardTurn) → IsInRun m switches pins entries b before turns → BeginsApart m switches (c ∷ before) → (h : Homing) → (noted m c.note (known_by m switches before)).homing ≡ Some h → Now c before h
  known_since c before turns r apart h is =
      let known = known_by m switches before in
      let together : Together (noted m c.note known).homing = elim (some_or_none (news_of c.note)) [
        | inl some ↦ newly_together m (noted m c.note known).homing (noted_newly m c.note known some)
        | inr none ↦ subst Together (sym (noted_none m c.note known none)) (known_together m switches before r.goes_on)
      ] in
      now_by c before apart (since before turns r apart.1) h is (subst Together is together)
