-- A homing section over its turns: once its group and its members' boards are safe, they stay so, and no board tells of an early expiry.
use Rattle.std.proofs.Common.{◌≡◌, ℕ, suc, ◌+◌, ◌≤◌, inl, inr, List, [], ◌∷◌, ◌++◌, length, Some, ap, sym, ◌∙◌, subst, arith}
use Rattle.laws_board.proofs.Names.{leb_tells, Level, Machine, board_tick, clock_of, Clocks, board_at, clocks_at, Entry, Switch, State, orders, Member, Homing, answer_in, hears_all, noted, Came, known_by, state_at}
use Rattle.link_work.proofs.Late.{limits_split}
use Rattle.laws_board.specs.turns.Turns.{BoardTurn}
use Rattle.laws_board.specs.clocks.Runs.{orders_in}
use Rattle.laws_board.proofs.clocks.Lines.{as_long, run_before}
use Rattle.trigger_group.specs.declared.order.End.TheVariants as end
use Rattle.laws_homing.specs.home_runs.Told.{IsMember}
use Rattle.laws_homing.specs.clear_boards.Expiry.{TellExpiry}
use Rattle.laws_homing.proofs.clear_boards.Keeping.{hears_keep}
use Rattle.laws_homing.proofs.clear_boards.Never.{never_expires}
use Rattle.laws_homing.specs.clear_groups.Safe.{IsSafeAt, IsSafeIn}
use Rattle.laws_homing.specs.clear_groups.Sections.{AllLate, IsAlike, IsClearSection, IsFollowed, IsOnward, IsPlain, IsRestingSection, turns_of}
use Rattle.laws_homing.proofs.clear_boards.Rests.{clear_from}
use Rattle.laws_homing.proofs.clear_groups.Groups.{step_in, step_late}
use Rattle.laws_homing.proofs.clear_groups.Known.{of_known, some_known}
use Rattle.laws_homing.proofs.fired_runs.Reported.{sole_state}
use Rattle.plan_types.proofs.Facts.{some_same}

none_one : (u : State) → [] ≡ u ∷ [] → ⊥
none_one u e = cc

heads : (c d : Came) (xs ys : List Came) → c ∷ xs ≡ d ∷ ys → (c ≡ d) × (xs ≡ ys)
heads c d xs ys e = (cc, cc)

no_list : (d : Came) (later past : List Came) → [] ≡ later ++ d ∷ past → ⊥
no_list d [] past e = cc
no_list d (x ∷ later) past e = cc

-- turns before a number tell nothing from it on
none_yet : (clocks : Clocks) (last at : ℕ) (turns : List BoardTurn) → length turns ≤ at → AllLate clocks last at turns
none_yet clocks last at [] l = tt
none_yet clocks last at (t ∷ before) l = (λ far. absurd (omega (arith, l, far)), none_yet clocks last at before (omega (arith, l)))

-- a section in a scene without entries is one with links that rest
pub rests_section : (m : Machine) (switches : List Switch) (pins : ℕ → List (List Level)) (entries : List Entry) (lines : ℕ → Clocks) (from start : ℕ) (members : List Member) (c : Came) (before : List Came) (all : List (ℕ → BoardTurn)) → entries ≡ []
    → IsClearSection m switches pins entries lines from start members c before all → IsRestingSection m switches pins entries lines from start members c before all
rests_section m switches pins entries lines from start members c before all none s =
    record {
      goes_on = s.goes_on;
      long = s.long;
      homes = s.homes;
      begins = s.begins;
      knows = s.knows;
      plain = λ b on. by b (s.plain b on);
      states = s.states;
    }
  where
    by : (b : ℕ) → IsPlain m switches (pins b) entries b before (turns_of b all) → IsOnward m switches (pins b) entries b from before (turns_of b all)
    by b p = record { run = p.run; rests = clear_from (board_at m b) (pins b) b entries from (turns_of b all) none p.run.turns_are p.limits; none_shut = p.none_shut; in_range = p.in_range }

module _ (m : Machine) (switches : List Switch) (pins : ℕ → List (List Level)) (entries : List Entry) (lines : ℕ → Clocks) (ready from start last till at : ℕ) (members : List Member)
    (followed : (b : ℕ) → IsMember b members → IsFollowed m b (lines b) ready start last till) (early : from ≤ at) (low_so : ready + 4 ≤ at) (far : start ≤ at + 249) where
  -- the turn before
  pub cut_rests : (c d : Came) (past : List Came) (j : ℕ → BoardTurn) (js : List (ℕ → BoardTurn)) → IsRestingSection m switches pins entries lines from start members c (d ∷ past) (j ∷ js) → IsRestingSection m switches pins entries lines from start members d past js
  cut_rests c d past j js s =
      let size = s.long in
      record {
        goes_on = s.goes_on.1;
        long = omega (arith, size);
        homes = s.homes.1;
        begins = s.begins.1;
        knows = s.knows.1;
        plain = λ b on. plain b on (s.plain b on);
        states = λ b on. (s.plain b on).run.both.0;
      }
    where
      plain : (b : ℕ) → IsMember b members → IsOnward m switches (pins b) entries b from (d ∷ past) (turns_of b (j ∷ js)) → IsOnward m switches (pins b) entries b from past (turns_of b js)
      plain b on p =
          let turns = turns_of b js in
          let f = followed b on in
          let own : ℕ → ℕ = λ k. board_tick (clock_of (board_at m b)) k in
          let up = f.ticks.up (length turns) in
          let e : length turns + 1 ≡ suc (length turns) = omega arith in
          let same : own (length turns + 1) ≡ own (suc (length turns)) = ap own e in
          let range = p.in_range in
          record {
            run = run_before m switches (pins b) entries b d past (j b) turns p.run;
            rests = p.rests.1;
            none_shut = p.none_shut.1;
            in_range = omega (arith, up, same, range);
          }

  abbrev Late : List (ℕ → BoardTurn) → Type 0
  Late all = (b : ℕ) → IsMember b members → AllLate (lines b) last at (turns_of b all)

  goes : (c : Came) (before : List Came) (all : List (ℕ → BoardTurn)) → IsRestingSection m switches pins entries lines from start members c before all → length before + 276 ≤ till → at ≤ length before
      → IsSafeAt m switches pins entries lines start last members at (c ∷ before) all → IsSafeIn m switches pins entries lines start last members c before all × Late all
  goes c [] [] s r l k = (k.0 (omega (arith, l)), λ b on. tt)
  goes c [] (j ∷ js) s r l k = absurd (let size = s.long in omega (arith, size))
  goes c (d ∷ past) [] s r l k = absurd (let size = s.long in omega (arith, size))
  goes c (d ∷ past) (j ∷ js) s r l k = elim (leb_tells at (length past)) [
    | inl p ↦
        let old = cut_rests c d past j js s in
        let reach : length past + 276 ≤ till = omega (arith, r) in
        let was = goes d past js old reach p.1 k.1 in
        let x = was.0 in
        let reached = p.1 in
        let early_so : from ≤ length past = omega (arith, early, reached) in
        let low_here : ready + 4 ≤ length past = omega (arith, low_so, reached) in
        let far_here : start ≤ length past + 249 = omega (arith, far, reached) in (
          step_in m switches pins entries lines ready from start last till members followed c d past j js s early_so low_here far_here reach x.0 x.1 x.2,
          λ b on. (λ late. step_late m switches pins entries lines ready from start last till members followed c d past j js s early_so low_here far_here reach x.0 x.1 x.2 b on, was.1 b on),
        )
    | inr p ↦
        let below = p.1 in (
          k.0 (omega (arith, l, below)),
          λ b on. (
              let long = as_long m switches b past (turns_of b js) (s.plain b on).run.both.2 in
              let all : AllLate (lines b) last at (turns_of b (j ∷ js)) = none_yet (lines b) last at (j b ∷ turns_of b js) (omega (arith, below, long)) in
              all),
        )
  ]

  pub rests_safe : (c : Came) (before : List Came) (all : List (ℕ → BoardTurn)) → IsRestingSection m switches pins entries lines from start members c before all → length before + 276 ≤ till → at ≤ length before → IsSafeAt m switches pins entries lines start last members at (c ∷ before) all
      → IsSafeIn m switches pins entries lines start last members c before all × ((b : ℕ) → IsMember b members → AllLate (lines b) last at (turns_of b all))
  rests_safe c before all s r l k = goes c before all s r l k

  -- no state that came tells of an early expiry
  never_told : (b : ℕ) (on : IsMember b members) (when : ℕ) → when ≤ last → at + 1 ≤ start → (c : Came) (before : List Came) (all : List (ℕ → BoardTurn)) → IsRestingSection m switches pins entries lines from start members c before all
      → AllLate (lines b) last at (turns_of b all) → (later : List Came) (d : Came) (past : List Came) → c ∷ before ≡ later ++ d ∷ past → (s : State) → state_at b d.states ≡ s ∷ [] → start ≤ s.turn + 1
      → TellExpiry (clocks_at (noted m d.note (known_by m switches past)).clocks b) s.turn when s.news → ⊥
  never_told b on when low_when first c [] (j ∷ js) k late later d past e s is begun tells = absurd (let size = k.long in omega (arith, size))
  never_told b on when low_when first c (x ∷ more) [] k late later d past e s is begun tells = absurd (let size = k.long in omega (arith, size))
  never_told b on when low_when first c [] [] k late [] d past e s is begun tells =
      let same = (heads c d [] past e).0 in
      none_one s (sym (k.states b on) ∙ ap (λ (z : Came). state_at b z.states) same ∙ is)
  never_told b on when low_when first c [] [] k late (y ∷ later) d past e s is begun tells = no_list d later past (heads c y [] (later ++ d ∷ past) e).1
  never_told b on when low_when first c (x ∷ more) (j ∷ js) k late [] d past e s is begun tells =
      let both = heads c d (x ∷ more) past e in
      let told : (j b).state ≡ s = sole_state (j b).state s (sym (k.states b on) ∙ ap (λ (z : Came). state_at b z.states) both.0 ∙ is) in
      let turn : (j b).state.turn ≡ length (turns_of b js) = (k.plain b on).run.turns_are.0.1.turn in
      let At : State → Type 0 = λ z. start ≤ z.turn + 1 in
      let reached = subst At (sym told) begun in
      let long = as_long m switches b more (turns_of b js) (k.plain b on).run.both.2 in
      let Known : Came → List Came → Type 0 = λ z zs. TellExpiry (clocks_at (noted m z.note (known_by m switches zs)).clocks b) s.turn when s.news in
      let here : Known c (x ∷ more) = subst (λ (z : Came). Known z (x ∷ more)) (sym both.0) (subst (λ (zs : List Came). Known d zs) (sym both.1) tells) in
      let homes = k.homes.0 (omega (arith, early, reached, turn, long, first)) in
      let of = homes.1 in
      let known = some_known start members (noted m c.note (known_by m switches (x ∷ more))).homing of in
      let begins = (of_known start members (noted m c.note (known_by m switches (x ∷ more))).homing known.0 of known.1).0 in
      let alike = (k.knows.0 homes.0 known.0 known.1 begins b (k.plain b on).run.board).1 in
      let lines_now = clocks_at (noted m c.note (known_by m switches (x ∷ more))).clocks b in
      let same_turn : length (x ∷ more) + 276 ≡ length (turns_of b js) + 277 = omega (arith, long) in
      let Tells : State → Type 0 = λ z. TellExpiry lines_now z.turn when z.news in
      let by_state : Tells (j b).state = subst Tells (sym told) here in
      let now : TellExpiry lines_now (length (turns_of b js)) when (j b).state.news = subst (λ (n : ℕ). TellExpiry lines_now n when (j b).state.news) turn by_state in
      let far_when = late.0 (omega (arith, reached, turn, first)) lines_now (subst (λ (n : ℕ). IsAlike n lines_now (lines b)) same_turn alike) when now in
      omega (arith, far_when, low_when)
  never_told b on when low_when first c (x ∷ more) (j ∷ js) k late (y ∷ later) d past e s is begun tells =
      never_told b on when low_when first x more js (cut_rests c x more j js k) late.1 later d past (heads c y (x ∷ more) (later ++ d ∷ past) e).1 s is begun tells

  -- the group answers of none of its boards that it expired
  pub never_answers : (c : Came) (before : List Came) (all : List (ℕ → BoardTurn)) → IsRestingSection m switches pins entries lines from start members c before all → length before + 276 ≤ till → at ≤ length before → at + 1 ≤ start
      → IsSafeAt m switches pins entries lines start last members at (c ∷ before) all → (h : Homing) → (noted m c.note (known_by m switches before)).homing ≡ Some h → h.start ≡ start → (b turn : ℕ) → IsMember b members
      → answer_in (length before) h.start (hears_all (noted m c.note (known_by m switches before)).clocks c.states h).group ≡ Some (end.Expired b turn) → ⊥
  never_answers c before all k r l first safe h is begins b turn on ends =
      let x = goes c before all k r l safe in
      let clocks = (noted m c.note (known_by m switches before)).clocks in
      let same : x.0.0 ≡ h = some_same x.0.0 h (sym x.0.1 ∙ is) in
      let last_is : (hears_all clocks c.states x.0.0).group.last ≡ last = x.0.2.ends in
      let of : h.group.last ≡ last = sym (hears_keep clocks c.states h).last ∙ ap (λ (z : Homing). (hears_all clocks c.states z).group.last) (sym same) ∙ last_is in
      never_expires m switches c before h b turn k.goes_on is
      (λ when low_when later d past e s told begun tells. (never_told b on when (omega (arith, low_when, of)) first c before all k (x.1 b on) later d past e s told (omega (arith, begun, begins)) tells)) ends

module _ (m : Machine) (switches : List Switch) (pins : ℕ → List (List Level)) (entries : List Entry) (none : entries ≡ []) (lines : ℕ → Clocks) (ready from start last till at : ℕ) (members : List Member)
    (followed : (b : ℕ) → IsMember b members → IsFollowed m b (lines b) ready start last till) (early : from ≤ at) (low_so : ready + 4 ≤ at) (far : start ≤ at + 249) where
  -- the turn before
  pub cut : (c d : Came) (past : List Came) (j : ℕ → BoardTurn) (js : List (ℕ → BoardTurn)) → IsClearSection m switches pins entries lines from start members c (d ∷ past) (j ∷ js) → IsClearSection m switches pins entries lines from start members d past js
  cut c d past j js s =
      let size = s.long in
      record {
        goes_on = s.goes_on.1;
        long = omega (arith, size);
        homes = s.homes.1;
        begins = s.begins.1;
        knows = s.knows.1;
        plain = λ b on. plain b on (s.plain b on);
        states = λ b on. (s.plain b on).run.both.0;
      }
    where
      plain : (b : ℕ) → IsMember b members → IsPlain m switches (pins b) entries b (d ∷ past) (turns_of b (j ∷ js)) → IsPlain m switches (pins b) entries b past (turns_of b js)
      plain b on p =
          let turns = turns_of b js in
          let f = followed b on in
          let own : ℕ → ℕ = λ k. board_tick (clock_of (board_at m b)) k in
          let up = f.ticks.up (length turns) in
          let e : length turns + 1 ≡ suc (length turns) = omega arith in
          let same : own (length turns + 1) ≡ own (suc (length turns)) = ap own e in
          let range = p.in_range in
          record {
            run = run_before m switches (pins b) entries b d past (j b) turns p.run;
            limits = (limits_split (orders_in turns) (orders (j b).control (j b).batch ∷ []) p.limits).0;
            none_shut = p.none_shut.1;
            in_range = omega (arith, up, same, range);
          }

  pub stays_safe : (c : Came) (before : List Came) (all : List (ℕ → BoardTurn)) → IsClearSection m switches pins entries lines from start members c before all → length before + 276 ≤ till → at ≤ length before → IsSafeAt m switches pins entries lines start last members at (c ∷ before) all
      → IsSafeIn m switches pins entries lines start last members c before all × ((b : ℕ) → IsMember b members → AllLate (lines b) last at (turns_of b all))
  stays_safe c before all s r l k =
      rests_safe m switches pins entries lines ready from start last till at members followed early low_so far c before all (rests_section m switches pins entries lines from start members c before all none s) r l k
