-- A homing section that is known was begun in some turn, was known since, and was new then; so the sections of a run are set up.
use Rattle.std.proofs.Common.{◌≡◌, ℕ, ◌+◌, ◌<◌, ◌≤◌, inl, inr, List, [], ◌∷◌, length, map, Option, Some, None, refl, ap, sym, ◌∙◌, subst, arith}
use Rattle.laws_board.proofs.Names.{Level, Machine, board_tick, clock_of, Clocks, IsValidMachine, board_at, NoteNews, Entry, Switch, End, Member, Seen, GroupState, Homing, answer_in, goes_on_homing, hears_all, homing_after, members_of, Connecting, news_of, noted, Reacted, Came, GoesOn, known_by, states-kept}
use Rattle.msg_code.specs.declared.talk.NoteNews.TheVariants as news
use Rattle.laws_board.specs.turns.Turns.{BoardTurn}
use Rattle.laws_board.proofs.sections.Linking.{valid_ticks}
use Rattle.trigger_group.specs.declared.order.End.TheVariants as end
use Rattle.trigger_group.proofs.Knows.{after_last, after_members, after_start}
use Rattle.laws_board.proofs.clocks.Controls.{states_start}
use Rattle.laws_board.proofs.clocks.Lines.{noted_phase}
use Rattle.laws_board.proofs.clocks.Turning.{goes}
use Rattle.laws_homing.specs.home_runs.Sections.{HomesFrom, IsOf}
use Rattle.laws_homing.specs.home_runs.Told.{IsMember}
use Rattle.laws_homing.specs.home_runs.Words.{BeginsNone}
use Rattle.laws_homing.proofs.clear_boards.Keeping.{hears_keep}
use Rattle.laws_homing.specs.clear_groups.Resting.{BeginsAlone}
use Rattle.laws_homing.specs.clear_groups.Runs.{AreSetUp, BeginsWell, IsBegunWell, IsClearRun, IsSetUp, IsTracked}
use Rattle.laws_homing.specs.clear_groups.Sections.{AreOfTurn, BeginsNoneFrom, IsClearSection, IsFollowed, turns_of}
use Rattle.laws_homing.specs.clear_groups.SetUp.{AllOfTurn, BeginsSome, IsNewAt}
use Rattle.laws_homing.proofs.clear_groups.Known.{behind_turn}
use Rattle.laws_homing.proofs.clear_groups.Newly.{stays_new}
use Rattle.laws_homing.proofs.clear_groups.Noted.{IsNewly, board_followed, noted_new, noted_newly, some_or_none, states_of_turn}
use Rattle.laws_homing.proofs.clear_groups.Plain.{turn_before}
use Rattle.laws_homing.proofs.clear_groups.Resting.{clash, next_of, some_same}
use Rattle.laws_homing.proofs.clear_groups.Runs.{run_never}
use Rattle.laws_homing.proofs.clear_groups.Sections.{cut}
use Rattle.laws_homing.proofs.home_runs.Knowing.{noted_none}
use Rattle.laws_homing.proofs.home_parts.Known.{answer_late}

-- turns before one
homes_none : (m : Machine) (switches : List Switch) (from start : ℕ) (ms : List Member) (came : List Came) → length came ≤ from → HomesFrom m switches from start ms came
homes_none m switches from start ms [] l = tt
homes_none m switches from start ms (c ∷ before) l = ((λ e. absurd (omega (arith, e, l))), homes_none m switches from start ms before (omega (arith, l)))

begins_none : (from : ℕ) (came : List Came) → length came ≤ from → BeginsNoneFrom from came
begins_none from [] l = tt
begins_none from (c ∷ before) l = ((λ e. absurd (omega (arith, e, l))), begins_none from before (omega (arith, l)))

new_none : (m : Machine) (switches : List Switch) (start last : ℕ) (ms : List Member) (at : ℕ) (came : List Came) → length came ≤ at → IsNewAt m switches start last ms at came
new_none m switches start last ms at [] l = tt
new_none m switches start last ms at (c ∷ before) l = ((λ e. absurd (omega (arith, e, l))), new_none m switches start last ms at before (omega (arith, l)))

-- where a section was begun
pub record Began (m : Machine) (switches : List Switch) (lines : ℕ → ℕ → Clocks) (ready till : ℕ) (c : Came) (before : List Came) (h : Homing) : Type 0 where
  pub from : ℕ
  pub early : from ≤ length before
  pub late : ready ≤ from
  pub far : ready + 255 ≤ h.start
  pub soon : from + 251 ≤ h.start
  pub order : h.start ≤ h.group.last
  pub tracked : (b : ℕ) → b < length m.boards → IsTracked m b (lines h.start b) ready h.group.last till
  pub together : h.group.start ≡ h.start
  pub homes : HomesFrom m switches from h.start (members_of h.group) (c ∷ before)
  pub begins : BeginsNoneFrom from (c ∷ before)
  pub new : IsNewAt m switches h.start h.group.last (members_of h.group) from (c ∷ before)
  pub within : (b : ℕ) → IsMember b (members_of h.group) → b < length m.boards

-- a section that goes on from one turn to the next
goes_some : (k : ℕ) (g h : Homing) (o : Option End) → goes_on_homing k g o ≡ Some h → behind_turn g k ≡ h
goes_some k g h None e = some_same (behind_turn g k) h e
goes_some k g h (Some x) e = absurd (let bad : None ≡ Some h = e in cc)

both_notes : (ns : List NoteNews) → BeginsSome ns → BeginsNone ns → ⊥
both_notes [] s n = s
both_notes (news.Start section kind turn last moving ∷ ns) s n = n
both_notes (news.Done section turn ∷ ns) s n = both_notes ns s n
both_notes (news.Read x sections ∷ ns) s n = both_notes ns s n
both_notes (news.Line board line from ∷ ns) s n = both_notes ns s n

module _ (m : Machine) (switches : List Switch) (lines : ℕ → ℕ → Clocks) (ready till : ℕ) where
  came_from : (c d : Came) (past : List Came) (h g : Homing) → GoesOn m switches (d ∷ past) → BeginsNone (news_of c.note) → (noted m c.note (known_by m switches (d ∷ past))).homing ≡ Some h → (noted m d.note (known_by m switches past)).homing ≡ Some g
      → Began m switches lines ready till d past g → Began m switches lines ready till c (d ∷ past) h
  came_from c d past h g on none is was x =
      let n = noted m d.note (known_by m switches past) in
      let k = length past in
      let phase = (x.homes.0 x.early).0 in
      let open_it : n.phase ≡ Connecting → ⊥ = λ e. phase (sym (noted_phase m d.note (known_by m switches past)) ∙ e) in
      let next = next_of m switches d past on open_it in
      let heard = hears_all n.clocks d.states g in
      let known : (known_by m switches (d ∷ past)).homing ≡ Some h = sym (noted_none m c.note (known_by m switches (d ∷ past)) none) ∙ is in
      let to = sym (next.homing ∙ ap (λ (o : Option Homing). homing_after n.clocks k d.states o) was) ∙ known in
      let same : behind_turn heard k ≡ h = goes_some k heard h (answer_in k heard.start heard.group) to in
      let start : g.start ≡ h.start = ap (λ (z : Homing). z.start) same in
      let members : members_of g.group ≡ members_of h.group =
      sym (ap (λ (xs : List Seen). map (λ (y : Seen). y.member) xs) (after_members heard.group k) ∙ states-kept n.clocks 0 g.start d.states g.group) ∙ ap (λ (z : Homing). members_of z.group) same in
      let last : g.group.last ≡ h.group.last = sym (after_last heard.group k ∙ (hears_keep n.clocks d.states g).last) ∙ ap (λ (z : Homing). z.group.last) same in
      let begins : h.group.start ≡ h.start = sym (ap (λ (z : Homing). z.group.start) same) ∙ after_start heard.group k ∙ states_start n.clocks 0 g.start d.states g.group ∙ x.together ∙ start in
      let early = x.early in
      let soon = x.soon in
      let far = x.far in
      let order = x.order in
      let Homes : ℕ → List Member → Type 0 = λ s ms. HomesFrom m switches x.from s ms (d ∷ past) in
      let New : ℕ → ℕ → List Member → Type 0 = λ s l ms. IsNewAt m switches s l ms x.from (d ∷ past) in
      let Tracked : ℕ → ℕ → Type 0 = λ s l. (b : ℕ) → b < length m.boards → IsTracked m b (lines s b) ready l till in
      let homes : Homes h.start (members_of h.group) = subst (λ (s : ℕ). Homes s (members_of h.group)) start (subst (λ (ms : List Member). Homes g.start ms) members x.homes) in
      let new : New h.start h.group.last (members_of h.group) =
      subst (λ (s : ℕ). New s h.group.last (members_of h.group)) start (subst (λ (l : ℕ). New g.start l (members_of h.group)) last (subst (λ (ms : List Member). New g.start g.group.last ms) members x.new)) in
      record {
        from = x.from;
        early = omega (arith, early);
        late = x.late;
        far = omega (arith, far, start);
        soon = omega (arith, soon, start);
        order = omega (arith, order, start, last);
        tracked = subst (λ (l : ℕ). Tracked h.start l) last (subst (λ (s : ℕ). Tracked s g.group.last) start x.tracked);
        together = begins;
        homes = ((λ l. (next.phase, subst (λ (o : Option Homing). IsOf h.start (members_of h.group) o) (sym is) (refl, begins, refl))), homes);
        begins = ((λ l. none), x.begins);
        new = ((λ e. absurd (omega (arith, e, early))), new);
        within = λ b on. x.within b (subst (IsMember b) (sym members) on);
      }

  began_here : (c : Came) (before : List Came) (h : Homing) → AllOfTurn (c ∷ before) → BeginsSome (news_of c.note) → (noted m c.note (known_by m switches before)).homing ≡ Some h → IsBegunWell m switches lines ready till before h
      → Began m switches lines ready till c before h
  began_here c before h of some is w =
      let x : IsNewly m (Some h) = subst (IsNewly m) is (noted_newly m c.note (known_by m switches before) some) in
      let soon = w.soon in
      let k = length before in
      record {
        from = k;
        early = omega arith;
        late = w.late;
        far = w.far;
        soon = soon;
        order = w.goes;
        tracked = w.tracked;
        together = x.0;
        homes = ((λ l. (w.connected, subst (λ (o : Option Homing). IsOf h.start (members_of h.group) o) (sym is) (refl, x.0, refl))), homes_none m switches k h.start (members_of h.group) before (omega arith));
        begins = ((λ l. absurd (omega (arith, l))), begins_none k before (omega arith));
        new = ((λ e. noted_new m switches c before h some is of.0 (omega (arith, soon))), new_none m switches h.start h.group.last (members_of h.group) k before (omega arith));
        within = x.2;
      }

  known_was : (c d : Came) (past : List Came) (h : Homing) → GoesOn m switches (d ∷ past) → (known_by m switches (d ∷ past)).homing ≡ Some h → (g : Homing) × ((noted m d.note (known_by m switches past)).homing ≡ Some g)
  known_was c d past h on is = by (noted m d.note (known_by m switches past)).homing refl
    where
      by : (o : Option Homing) → (noted m d.note (known_by m switches past)).homing ≡ o → (g : Homing) × ((noted m d.note (known_by m switches past)).homing ≡ Some g)
      by (Some g) e = (g, e)
      by None e =
          let n = noted m d.note (known_by m switches past) in
          let Not : Reacted → Type 0 = λ y. y.known.homing ≡ Some h → ⊥ in
          let same : (o : Option Homing) → o ≡ None → o ≡ Some h → ⊥ = λ o a z. clash o h a z in
          let later : homing_after n.clocks (length past) d.states n.homing ≡ None = ap (λ (o : Option Homing). homing_after n.clocks (length past) d.states o) e in
          absurd (elim (goes m switches (known_by m switches past) (length past) d.states d.note on.0) [
            | inl x ↦ subst Not (sym x.is) (λ z. same n.homing e z) is
            | inr more ↦ elim more [ inl x ↦ subst Not (sym x.is) (λ z. same n.homing e z) is | inr x ↦ subst Not (sym x.is) (λ z. same (homing_after n.clocks (length past) d.states n.homing) later z) is ]
          ])

  pub began : (c : Came) (before : List Came) → GoesOn m switches before → AllOfTurn (c ∷ before) → BeginsWell m switches lines ready till (c ∷ before) → (h : Homing) → (noted m c.note (known_by m switches before)).homing ≡ Some h → Began m switches lines ready till c before h
  began c [] on of well h is = elim (some_or_none (news_of c.note)) [
    | inl some ↦ began_here c [] h of some is (elim well.0 [ inl calm ↦ absurd (both_notes (news_of c.note) some calm) | inr x ↦ x.1 h is ])
    | inr calm ↦ absurd (let bad : None ≡ Some h = sym (noted_none m c.note (known_by m switches []) calm) ∙ is in cc)
  ]
  began c (d ∷ past) on of well h is = elim (some_or_none (news_of c.note)) [
    | inl some ↦ began_here c (d ∷ past) h of some is (elim well.0 [ inl calm ↦ absurd (both_notes (news_of c.note) some calm) | inr x ↦ x.1 h is ])
    | inr calm ↦
        let known : (known_by m switches (d ∷ past)).homing ≡ Some h = sym (noted_none m c.note (known_by m switches (d ∷ past)) calm) ∙ is in
        let g = known_was c d past h on known in
        came_from c d past h g.0 on calm is g.1 (began d past on.1 of.1 well.1 g.0 g.1)
  ]

  pub well_alone : (came : List Came) → BeginsWell m switches lines ready till came → BeginsAlone m switches came
  well_alone [] w = tt
  well_alone (c ∷ before) w = (elim w.0 [ inl calm ↦ inl calm | inr x ↦ inr (x.0, λ h is. (x.1 h is).soon) ], well_alone before w.1)

-- the sections of a run
module _ (m : Machine) (v : IsValidMachine m) (switches : List Switch) (pins : ℕ → List (List Level)) (entries : List Entry) (none : entries ≡ []) (lines : ℕ → ℕ → Clocks) (ready till : ℕ) where
  rises : (b : ℕ) → b < length m.boards → (k : ℕ) → board_tick (clock_of (board_at m b)) k ≤ board_tick (clock_of (board_at m b)) (k + 1)
  rises b l = (valid_ticks (board_at m b) (v.boards b _ l)).up

  not_yet : (k start : ℕ) (g : GroupState) → k < start → answer_in k start g ≡ None
  not_yet k start g l = by (answer_in k start g) refl
    where
      by : (o : Option End) → answer_in k start g ≡ o → answer_in k start g ≡ None
      by None e = e
      by (Some end) e = absurd (let late = answer_late k start g end e in omega (arith, late, l))

  abbrev Clear : Came → List Came → List (ℕ → BoardTurn) → Type 0
  Clear c before all = IsClearRun m switches pins entries lines ready till c before all

  -- the turn before
  pub run_cut : (c d : Came) (past : List Came) (j : ℕ → BoardTurn) (js : List (ℕ → BoardTurn)) → Clear c (d ∷ past) (j ∷ js) → Clear d past js
  run_cut c d past j js r =
      let size = r.long in
      record {
        goes_on = r.goes_on.1;
        long = omega (arith, size);
        have = r.have.1;
        begins = r.begins.1;
        knows = λ start. (r.knows start).1;
        plain = λ b l. turn_before m switches (pins b) entries b d past (j b) (turns_of b js) (rises b l) (r.plain b l);
        states = λ b l. (r.plain b l).run.both.0;
      }

  of_turn : (c : Came) (before : List Came) (all : List (ℕ → BoardTurn)) → Clear c before all → AllOfTurn (c ∷ before)
  of_turn c [] all r = (states_of_turn m switches pins entries c [] all r.have (λ b l. ((r.plain b l).run, r.states b l)), tt)
  of_turn c (d ∷ past) [] r = absurd (let size = r.long in omega (arith, size))
  of_turn c (d ∷ past) (j ∷ js) r = (states_of_turn m switches pins entries c (d ∷ past) (j ∷ js) r.have (λ b l. ((r.plain b l).run, r.states b l)), of_turn d past js (run_cut c d past j js r))

  pub began_in : (c : Came) (before : List Came) (all : List (ℕ → BoardTurn)) → Clear c before all → (h : Homing) → (noted m c.note (known_by m switches before)).homing ≡ Some h → Began m switches lines ready till c before h
  began_in c before all r h is = began m switches lines ready till c before r.goes_on (of_turn c before all r) r.begins h is

  -- a section that is known
  pub section_in : (c : Came) (before : List Came) (all : List (ℕ → BoardTurn)) → Clear c before all → (h : Homing) (x : Began m switches lines ready till c before h) → IsClearSection m switches pins entries (lines h.start) x.from h.start (members_of h.group) c before all
  section_in c before all r h x =
      record {
        goes_on = r.goes_on;
        long = r.long;
        homes = x.homes;
        begins = x.begins;
        knows = r.knows h.start;
        plain = λ b on. r.plain b (x.within b on);
        states = λ b on. r.states b (x.within b on);
      }

  pub followed_in : (c : Came) (before : List Came) (all : List (ℕ → BoardTurn)) → Clear c before all → (h : Homing) (x : Began m switches lines ready till c before h) → (b : ℕ) → IsMember b (members_of h.group) → IsFollowed m b (lines h.start b) ready h.start h.group.last till
  followed_in c before all r h x b on =
      let l = x.within b on in
      let t = x.tracked b l in
      let early = x.far in
      board_followed m b (lines h.start b) ready h.start h.group.last till v l t.0 (omega (arith, early)) x.order t.1 t.2

  -- its set-up
  set_up_here : (c d e : Came) (past : List Came) (i j : ℕ → BoardTurn) (js : List (ℕ → BoardTurn)) → Clear c (d ∷ e ∷ past) (i ∷ j ∷ js) → (h : Homing) → (noted m d.note (known_by m switches (e ∷ past))).homing ≡ Some h → h.group.start ≡ length (e ∷ past) + 250
      → IsSetUp m switches pins entries (lines h.group.start) ready till h.group.start c d e past i j js
  set_up_here c d e past i j js r h is at =
      let before = run_cut c d (e ∷ past) i (j ∷ js) r in
      let y = began_in d (e ∷ past) (j ∷ js) before h is in
      let together = y.together in
      let n = noted m d.note (known_by m switches (e ∷ past)) in
      let phase = (y.homes.0 y.early).0 in
      let open_it : n.phase ≡ Connecting → ⊥ = λ z. phase (sym (noted_phase m d.note (known_by m switches (e ∷ past))) ∙ z) in
      let next = next_of m switches d (e ∷ past) r.goes_on open_it in
      let heard = hears_all n.clocks d.states h in
      let none_yet = not_yet (length (e ∷ past)) h.start heard.group (omega (arith, at, together)) in
      let g = behind_turn heard (length (e ∷ past)) in
      let to : (known_by m switches (d ∷ e ∷ past)).homing ≡ Some g =
      next.homing ∙ ap (λ (o : Option Homing). homing_after n.clocks (length (e ∷ past)) d.states o) is ∙ ap (λ (o : Option End). goes_on_homing (length (e ∷ past)) heard o) none_yet in
      let known : (noted m c.note (known_by m switches (d ∷ e ∷ past))).homing ≡ Some g =
      elim r.begins.0 [ inl calm ↦ noted_none m c.note (known_by m switches (d ∷ e ∷ past)) calm ∙ to | inr x ↦ absurd (clash (known_by m switches (d ∷ e ∷ past)).homing g x.0 to) ] in
      let x = began_in c (d ∷ e ∷ past) (i ∷ j ∷ js) r g known in
      let section = section_in c (d ∷ e ∷ past) (i ∷ j ∷ js) r g x in
      let followed = followed_in c (d ∷ e ∷ past) (i ∷ j ∷ js) r g x in
      let soon = x.soon in
      let far = x.far in
      let order = x.order in
      let of = of_turn c (d ∷ e ∷ past) (i ∷ j ∷ js) r in
      let one : length past + 1 ≡ length (e ∷ past) = omega arith in
      let two : length past + 2 ≡ length (d ∷ e ∷ past) = omega arith in
      let from_early : x.from ≤ length past = omega (arith, soon, at, together) in
      let once = cut m switches pins entries none (lines h.start) ready x.from h.start g.group.last till h.start (members_of g.group) followed (omega (arith, soon)) (omega (arith, far)) (omega arith) c d (e ∷ past) i (j ∷ js) section in
      let twice = cut m switches pins entries none (lines h.start) ready x.from h.start g.group.last till h.start (members_of g.group) followed (omega (arith, soon)) (omega (arith, far)) (omega arith) d e past j js once in
      let new = stays_new m switches x.from h.start g.group.last (members_of g.group) x.soon e past twice.goes_on twice.homes twice.begins of.1.1 from_early (omega (arith, at, together)) x.new.1.1 in
      let made : IsSetUp m switches pins entries (lines h.start) ready till h.start c d e past i j js = record {
        from = x.from;
        last = g.group.last;
        members = members_of g.group;
        section = section;
        followed = followed;
        early = from_early;
        begins = omega (arith, far, at, together);
        goes = order;
        first = subst (λ (k : ℕ). AreOfTurn k d.states) (sym one) of.1.0;
        second = subst (λ (k : ℕ). AreOfTurn k c.states) (sym two) of.0;
        new = new;
      } in
      subst (λ (k : ℕ). IsSetUp m switches pins entries (lines k) ready till k c d e past i j js) (sym together) made

  first_none : (c d : Came) (all : List (ℕ → BoardTurn)) → Clear c (d ∷ []) all → AreSetUp m switches pins entries lines ready till (c ∷ d ∷ []) all
  first_none c d [] r = absurd (let size = r.long in omega (arith, size))
  first_none c d (i ∷ js) r = λ h is at. (
      let x = began_in d [] js (run_cut c d [] i js r) h is in
      let far = x.far in
      let together = x.together in
      omega (arith, far, together, at))

  pub set_up_all : (c : Came) (before : List Came) (all : List (ℕ → BoardTurn)) → Clear c before all → AreSetUp m switches pins entries lines ready till (c ∷ before) all
  set_up_all c [] all r = tt
  set_up_all c (d ∷ []) all r = first_none c d all r
  set_up_all c (d ∷ e ∷ past) [] r = absurd (let size = r.long in omega (arith, size))
  set_up_all c (d ∷ e ∷ past) (i ∷ []) r = absurd (let size = r.long in omega (arith, size))
  set_up_all c (d ∷ e ∷ past) (i ∷ j ∷ js) r = (λ h is at. set_up_here c d e past i j js r h is at, set_up_all d (e ∷ past) (j ∷ js) (run_cut c d (e ∷ past) i (j ∷ js) r))

  -- so no group answers that a board expired
  pub run_answers : (c : Came) (before : List Came) (all : List (ℕ → BoardTurn)) → Clear c before all → length before + 276 ≤ till → (h : Homing) → (noted m c.note (known_by m switches before)).homing ≡ Some h → (b turn : ℕ)
      → answer_in (length before) h.start (hears_all (noted m c.note (known_by m switches before)).clocks c.states h).group ≡ Some (end.Expired b turn) → ⊥
  run_answers c before all r reach h is b turn ends =
      let x = began_in c before all r h is in
      run_never m switches pins entries none lines ready till v x.from h.start (members_of h.group) x.soon c before all (section_in c before all r h x) (well_alone m switches lines ready till before r.begins.1) (set_up_all c before all r) reach x.early h is b turn ends
