-- What a stream of units has released: one more release, one more turn, one more unit.
use Rattle.std.proofs.Common.{◌≡◌, ◌⊎◌, inl, inr, ℕ, zero, suc, pos, None, ◌+◌, ◌<◌, ◌≤◌, List, [], ◌∷◌, ◌++◌, length, drop, take, slice_index_or, cond, nat_eq, arith, ap, sym, ◌∙◌, refl, subst, append-nil, append_assoc}
use Rattle.std.specs.Prelude.{IsTrue}
use Rattle.std.proofs.Math.Dec.{leb}
use Rattle.std.proofs.Math.Seq.{take-suc}
use Rattle.std.proofs.lemmas.Bool.{cases_lt, eq-eqb, leb-true, le-leb, ne_eqb}
use Rattle.plan_types.specs.Lines.{Clocks}
use Rattle.step_feed.specs.declared.ring.Ring.{Ring}
use Rattle.step_feed.specs.Units.{StepUnit, unit_bytes}
use Rattle.step_feed.specs.Pacing.{Release, ArePaced, HasRoom, IsReleased, at_turn, bytes_in, lead, pending, releases, turn_bytes, units_of}
use Rattle.step_feed.specs.Rings.{count_from, made_before, not_over, one_from}
use Rattle.clock_line.specs.Kept.{AreKept}
use Rattle.step_feed.proofs.Rings.{made-mono, not_over-same, one-same}
use Rattle.step_feed.specs.Fed.{AreGrown, AreRings, IsFed, IsFitting, IsNoSooner, IsStuck, releases_behind, last_release, lasts_from}

units-append : (rs : List Release) (u : StepUnit) (turn : ℕ) (us : List StepUnit) → units_of (rs ++ record { unit = u; turn = turn } ∷ []) ++ us ≡ units_of rs ++ u ∷ us
units-append [] u turn us = refl
units-append (r ∷ rs) u turn us = ap (λ vs. r.unit ∷ vs) (units-append rs u turn us)

last-append : (from : ℕ) (rs : List Release) (r : Release) → last_release from (rs ++ r ∷ []) ≡ r.turn
last-append from [] r = refl
last-append from (s ∷ rs) r = last-append s.turn rs r

behind-append : (before rs : List Release) (r : Release) → releases_behind before (rs ++ r ∷ []) ≡ r ∷ releases_behind before rs
behind-append before [] r = refl
behind-append before (s ∷ rs) r = behind-append (s ∷ before) rs r

paced-append : (clocks : Clocks) (slots from : ℕ) (before rs : List Release) (r : Release) → ArePaced clocks slots from before rs → IsReleased clocks slots (last_release from rs) (releases_behind before rs) r → ArePaced clocks slots from before (rs ++ r ∷ [])
paced-append clocks slots from before [] r paced is = (is, tt)
paced-append clocks slots from before (s ∷ rs) r paced is = (paced.0, paced-append clocks slots s.turn (s ∷ before) rs r paced.1 is)

own-bytes : (k : ℕ) (u : StepUnit) (rs : List Release) → bytes_in k (record { unit = u; turn = k } ∷ rs) ≡ unit_bytes u + bytes_in k rs
own-bytes k u rs = let e = eq-eqb k k refl in rw e refl

other-bytes : (k turn : ℕ) (u : StepUnit) (rs : List Release) → turn < k → bytes_in k (record { unit = u; turn = turn } ∷ rs) ≡ bytes_in k rs
other-bytes k turn u rs before = let e = ne_eqb turn k (λ s. absurd (omega arith)) in rw e (omega arith)

-- a unit that is released behind others
rings-release : (clocks : Clocks) (next : ℕ) (u : StepUnit) (old new : List Ring) (before : List Release) → length new ≡ length old → u.stepper < length old → ((s x : ℕ) (d : Ring) → s < length old → made_before clocks next ≤ x → count_from x (slice_index_or new s d).ends.items ≡ cond (nat_eq u.stepper s) (one_from x u.last) 0 + count_from x (slice_index_or old s d).ends.items) → AreRings clocks next old before → AreRings clocks next new (record { unit = u; turn = next } ∷ before)
rings-release clocks next u old new before len known counts are = record {
  held = λ s x d inside later. let c = counts s x d (omega arith) later in let h = are.held s x d (omega arith) later in omega arith;
  others = λ s x outside later.
      let o = are.others s x (omega arith) later in
      let e = ne_eqb u.stepper s (λ same. absurd (omega arith)) in
      rw (e, o) refl;
}

-- the units that are pending, by the ticks of their rings
pending-same : (clocks : Clocks) (s k : ℕ) (rs : List Release) → AreKept clocks → pending clocks s k rs ≡ lasts_from (made_before clocks k) s rs
pending-same clocks s k [] are = refl
pending-same clocks s k (r ∷ rs) are =
    let one = ap (λ n. cond (nat_eq r.unit.stepper s) n 0) (one-same clocks k r.unit.last are) in
    let rest = pending-same clocks s k rs are in
    omega arith

held-pending : (clocks : Clocks) (next : ℕ) (rings : List Ring) (before : List Release) (s k : ℕ) (ring : Ring) → AreKept clocks → AreRings clocks next rings before → s < length rings → ring ≡ slice_index_or rings s ring → next ≤ k → not_over clocks k ring.ends.items ≡ pending clocks s k before
held-pending clocks next rings before s k ring kept are inside is later =
    not_over-same clocks k ring.ends.items kept
    ∙ ap (λ r. count_from (made_before clocks k) r.ends.items) is
    ∙ are.held s (made_before clocks k) ring inside (made-mono clocks next k later)
    ∙ sym (pending-same clocks s k before kept)

-- where the last release was in a turn, no unit behind it comes sooner
later-sooner : (clocks : Clocks) (slots next from : ℕ) (released : List Release) (us : List StepUnit) → next ≤ last_release from released → IsNoSooner clocks slots next (last_release from released) (releases_behind [] released) us
later-sooner clocks slots next from released [] past = tt
later-sooner clocks slots next from released (u ∷ us) past = λ k after room. omega arith

pub fed-release : (clocks : Clocks) (slots next used : ℕ) (old new : List Ring) (u : StepUnit) (all rest : List StepUnit) (from : ℕ) (pushed : List StepUnit) (released : List Release) → IsFed clocks slots next used old all from pushed released → all ≡ u ∷ rest → HasRoom clocks slots (releases_behind [] released) u next → length new ≡ length old → u.stepper < length old → ((s x : ℕ) (d : Ring) → s < length old → made_before clocks next ≤ x → count_from x (slice_index_or new s d).ends.items ≡ cond (nat_eq u.stepper s) (one_from x u.last) 0 + count_from x (slice_index_or old s d).ends.items) → IsFed clocks slots next (used + unit_bytes u) new rest from pushed (released ++ record { unit = u; turn = next } ∷ [])
fed-release clocks slots next used old new u all rest from pushed released fed is room len known counts =
    let r : Release = record { unit = u; turn = next } in
    let b = behind-append [] released r in
    let l = last-append from released r in
    let sooner : IsNoSooner clocks slots next (last_release from released) (releases_behind [] released) (u ∷ rest) = subst (λ us. IsNoSooner clocks slots next (last_release from released) (releases_behind [] released) us) is fed.no_sooner in
    record {
      pushed_is = fed.pushed_is ∙ ap (λ us. units_of released ++ us) is ∙ sym (units-append released u next rest);
      paced = paced-append clocks slots from [] released r fed.paced (record { after = fed.past; room = room; first = sooner });
      past = rw l (omega arith);
      used_is = let o = own-bytes next u (releases_behind [] released) in let w = fed.used_is in rw b (omega arith);
      later = λ k after. let o = other-bytes k next u (releases_behind [] released) after in let w = fed.later k after in rw b (o ∙ w);
      rings_are = rw b (rings-release clocks next u old new (releases_behind [] released) len known counts fed.rings_are);
      no_sooner = later-sooner clocks slots next from (released ++ r ∷ []) rest (rw l (omega arith));
    }

-- the tests of a stream are those of the definition
pub fed-room : (clocks : Clocks) (slots next used : ℕ) (rings : List Ring) (waiting : List StepUnit) (from : ℕ) (pushed : List StepUnit) (released : List Release) (u : StepUnit) (ring : Ring) (free : ℕ) → AreKept clocks → IsFed clocks slots next used rings waiting from pushed released → u.due ≤ next + lead → used + unit_bytes u ≤ turn_bytes → u.stepper < length rings → ring ≡ slice_index_or rings u.stepper ring → ring.slots ≡ slots → ((not_over clocks next ring.ends.items < ring.slots → free ≤ next) × (free ≤ next → not_over clocks next ring.ends.items < ring.slots)) → (IsTrue (leb free next) → HasRoom clocks slots (releases_behind [] released) u next) × (HasRoom clocks slots (releases_behind [] released) u next → IsTrue (leb free next))
fed-room clocks slots next used rings waiting from pushed released u ring free kept fed due bytes known is slots_are free_is =
    let same = held-pending clocks next rings (releases_behind [] released) u.stepper next ring kept fed.rings_are known is (omega arith) in
    let w = fed.used_is in
    ((λ true_is. let steps = free_is.1 (leb-true free next true_is) in record { due = due; bytes = omega arith; steps = omega arith }), (λ room. let s = room.steps in le-leb free next (free_is.0 (omega arith))))

-- a unit behind those that wait
pub last-from : (clocks : Clocks) (slots from : ℕ) (before rs : List Release) → ArePaced clocks slots from before rs → from ≤ last_release from rs
last-from clocks slots from before [] paced = omega arith
last-from clocks slots from before (r ∷ rs) paced =
    let l = last-from clocks slots r.turn (r ∷ before) rs paced.1 in
    let a = paced.0.after in
    omega arith

push-sooner : (clocks : Clocks) (slots next from last : ℕ) (before : List Release) (us : List StepUnit) (u : StepUnit) → from ≤ last → (next ≤ from) ⊎ (next + lead ≤ u.due) → IsNoSooner clocks slots next last before us → IsNoSooner clocks slots next last before (us ++ u ∷ [])
push-sooner clocks slots next from last before [] u order (inl early) sooner = λ k after room. omega arith
push-sooner clocks slots next from last before [] u order (inr late) sooner = λ k after room. let d = room.due in omega arith
push-sooner clocks slots next from last before (w ∷ us) u order in_time sooner = sooner

pub fed-push : (clocks : Clocks) (slots next used : ℕ) (rings : List Ring) (waiting : List StepUnit) (from : ℕ) (pushed : List StepUnit) (released : List Release) (u : StepUnit) → (next ≤ from) ⊎ (next + lead ≤ u.due) → IsFed clocks slots next used rings waiting from pushed released → IsFed clocks slots next used rings (waiting ++ u ∷ []) from (pushed ++ u ∷ []) released
fed-push clocks slots next used rings waiting from pushed released u in_time fed = record {
  paced = fed.paced;
  past = fed.past;
  used_is = fed.used_is;
  later = fed.later;
  rings_are = fed.rings_are;
  pushed_is = ap (λ us. us ++ u ∷ []) fed.pushed_is ∙ append_assoc (units_of released) waiting (u ∷ []);
  no_sooner = push-sooner clocks slots next from (last_release from released) (releases_behind [] released) waiting u (last-from clocks slots from [] released fed.paced) in_time fed.no_sooner;
}

-- empty rings behind the others
rings-grow : (clocks : Clocks) (slots next : ℕ) (old new : List Ring) (before : List Release) → AreGrown slots old new → AreRings clocks next old before → AreRings clocks next new before
rings-grow clocks slots next old new before grown are = record {
  held = λ s x d inside later. elim (cases_lt s (length old)) [
    | inl here ↦ (ap (λ r. count_from x r.ends.items) (grown.same s d here) ∙ are.held s x d here later)
    | inr added ↦ (ap (count_from x) (grown.empty s d added inside) ∙ sym (are.others s x added later))
  ];
  others = λ s x outside later. let l = grown.longer in are.others s x (omega arith) later;
}

pub fed-grow : (clocks : Clocks) (slots next used : ℕ) (old new : List Ring) (waiting : List StepUnit) (from : ℕ) (pushed : List StepUnit) (released : List Release) → AreGrown slots old new → IsFed clocks slots next used old waiting from pushed released → IsFed clocks slots next used new waiting from pushed released
fed-grow clocks slots next used old new waiting from pushed released grown fed = record {
  pushed_is = fed.pushed_is;
  paced = fed.paced;
  past = fed.past;
  used_is = fed.used_is;
  later = fed.later;
  rings_are = rings-grow clocks slots next old new (releases_behind [] released) grown fed.rings_are;
  no_sooner = fed.no_sooner;
}

pub first-rest : (us rest : List StepUnit) (u : StepUnit) → 0 < length us → u ≡ slice_index_or us 0 u → rest ≡ drop 1 us → us ≡ u ∷ rest
first-rest [] rest u some is dropped = absurd (omega arith)
first-rest (w ∷ us) rest u some is dropped = rw (is, dropped) refl

-- a later turn, before which there is no room for what waits first
pub fed-skip : (clocks : Clocks) (slots next used : ℕ) (rings : List Ring) (waiting : List StepUnit) (from : ℕ) (pushed : List StepUnit) (released : List Release) (k rest : ℕ) → next ≤ k → (k ≡ next → rest ≡ used) → (next < k → rest ≡ 0) → IsNoSooner clocks slots k (last_release from released) (releases_behind [] released) waiting → IsFed clocks slots next used rings waiting from pushed released → IsFed clocks slots k rest rings waiting from pushed released
fed-skip clocks slots next used rings waiting from pushed released k rest order same fresh sooner fed = record {
  pushed_is = fed.pushed_is;
  paced = fed.paced;
  past = let p = fed.past in omega arith;
  used_is = elim (cases_lt next k) [
    | inl after ↦ (fresh after ∙ sym (fed.later k after))
    | inr here ↦ (let e : k ≡ next = omega arith in same e ∙ fed.used_is ∙ ap (λ t. bytes_in t (releases_behind [] released)) (sym e))
  ];
  later = λ j after. fed.later j (omega arith);
  rings_are = let m = made-mono clocks next k order in record { held = λ s x d inside after. fed.rings_are.held s x d inside (omega arith); others = λ s x outside after. fed.rings_are.others s x outside (omega arith) };
  no_sooner = sooner;
}

-- the turn behind one in which there is no room
stuck-sooner : (clocks : Clocks) (slots next from : ℕ) (before : List Release) (us : List StepUnit) → IsStuck clocks slots next before us → IsNoSooner clocks slots next from before us → IsNoSooner clocks slots (next + 1) from before us
stuck-sooner clocks slots next from before [] stuck sooner = tt
stuck-sooner clocks slots next from before (u ∷ us) stuck sooner = λ k after room.
    let l = sooner k after room in
    elim (cases_lt next k) [
      | inl more ↦ omega arith
      | inr here ↦ (let e : k ≡ next = omega arith in absurd (stuck (subst (λ j. HasRoom clocks slots before u j) e room)))
    ]

pub fed-turn : (clocks : Clocks) (slots next used : ℕ) (rings : List Ring) (waiting : List StepUnit) (from : ℕ) (pushed : List StepUnit) (released : List Release) → IsStuck clocks slots next (releases_behind [] released) waiting → IsFed clocks slots next used rings waiting from pushed released → IsFed clocks slots (next + 1) 0 rings waiting from pushed released
fed-turn clocks slots next used rings waiting from pushed released stuck fed =
    fed-skip clocks slots next used rings waiting from pushed released (next + 1) 0 (omega arith) (λ e. absurd (omega arith)) (λ l. refl) (stuck-sooner clocks slots next (last_release from released) (releases_behind [] released) waiting stuck fed.no_sooner) fed

-- no turn before the first fitting one has room
place-sooner : (next turn used bytes k rest due free j in_next : ℕ) → ((turn ≡ next) ⊎ ((turn + lead ≡ due) ⊎ (turn ≡ free))) → IsFitting next turn used bytes k rest → used ≡ in_next → next ≤ j → due ≤ j + lead → free ≤ j → (j ≡ next → in_next + bytes ≤ turn_bytes) → k ≤ j
place-sooner next turn used bytes k rest due free j in_next why fits used_is later early has room =
    let at : turn ≤ j = elim why [ inl e ↦ omega arith | inr w ↦ elim w [ inl e ↦ omega arith | inr e ↦ omega arith ] ] in
    elim (cases_lt turn k) [
      | inl more ↦ (
          let f = fits.first more in
          let n = f.1 in
          let o = f.2 in
          elim (cases_lt next j) [
            | inl beyond ↦ omega arith
            | inr here ↦ (let r = room (omega arith) in absurd (omega arith))
          ])
      | inr less ↦ omega arith
    ]

-- a unit behind others, of which none waits, in its first turn
pub fed-place : (clocks : Clocks) (slots next used : ℕ) (old new : List Ring) (from : ℕ) (pushed : List StepUnit) (released : List Release) (u : StepUnit) (ring : Ring) (free turn k rest : ℕ) → AreKept clocks → IsFed clocks slots next used old [] from pushed released → next ≤ last_release from released → u.stepper < length old → ring ≡ slice_index_or old u.stepper ring → ring.slots ≡ slots → ((j : ℕ) → (not_over clocks j ring.ends.items < ring.slots → free ≤ j) × (free ≤ j → not_over clocks j ring.ends.items < ring.slots)) → next ≤ turn → u.due ≤ turn + lead → free ≤ turn → ((turn ≡ next) ⊎ ((turn + lead ≡ u.due) ⊎ (turn ≡ free))) → IsFitting next turn used (unit_bytes u) k rest → length new ≡ length old → ((s x : ℕ) (d : Ring) → s < length old → made_before clocks k ≤ x → count_from x (slice_index_or new s d).ends.items ≡ cond (nat_eq u.stepper s) (one_from x u.last) 0 + count_from x (slice_index_or old s d).ends.items) → IsFed clocks slots k (rest + unit_bytes u) new [] from (pushed ++ u ∷ []) (released ++ record { unit = u; turn = k } ∷ [])
fed-place clocks slots next used old new from pushed released u ring free turn k rest kept fed at_last known is slots_are free_is order due open_is why fits len counts =
    let last = last_release from released in
    let before = releases_behind [] released in
    let after = fits.after in
    let p = fed.past in
    let same : (j : ℕ) → next ≤ j → not_over clocks j ring.ends.items ≡ pending clocks u.stepper j before =
    λ j later. held-pending clocks next old before u.stepper j ring kept fed.rings_are known is later in
    let pushed_one : IsFed clocks slots next used old (u ∷ []) from (pushed ++ u ∷ []) released = record {
      pushed_is = ap (λ us. us ++ u ∷ []) fed.pushed_is ∙ append_assoc (units_of released) [] (u ∷ []);
      paced = fed.paced;
      past = fed.past;
      used_is = fed.used_is;
      later = fed.later;
      rings_are = fed.rings_are;
      no_sooner = λ j later room. omega arith;
    } in
    let sooner : IsNoSooner clocks slots k last before (u ∷ []) = λ j later room.
    place-sooner next turn used (unit_bytes u) k rest u.due free j (bytes_in next before) why fits fed.used_is (omega arith) room.due ((free_is j).0 (let s = same j (omega arith) in let t = room.steps in omega arith)) (λ e. let b = room.bytes in rw e at b) in
    let skipped = fed-skip clocks slots next used old (u ∷ []) from (pushed ++ u ∷ []) released k rest (omega arith) fits.same fits.fresh sooner pushed_one in
    let here : HasRoom clocks slots before u k = record {
      due = omega arith;
      bytes = let w = skipped.used_is in let r = fits.room in omega arith;
      steps = let s = same k (omega arith) in let f = (free_is k).1 (omega arith) in omega arith;
    } in
    fed-release clocks slots k rest old new u (u ∷ []) [] from (pushed ++ u ∷ []) released skipped refl here len known counts

-- the units of one turn
pub none-taken : (released : List Release) → released ++ [] ≡ released
none-taken released = append-nil released

turn-append : (k : ℕ) (us : List StepUnit) (u : StepUnit) → at_turn k (us ++ u ∷ []) ≡ at_turn k us ++ record { unit = u; turn = k } ∷ []
turn-append k [] u = refl
turn-append k (w ∷ us) u = ap (λ rs. record { unit = w; turn = k } ∷ rs) (turn-append k us u)

pub one-more : (k : ℕ) (released : List Release) (us : List StepUnit) (u : StepUnit) → released ++ at_turn k (us ++ u ∷ []) ≡ (released ++ at_turn k us) ++ record { unit = u; turn = k } ∷ []
one-more k released us u = ap (λ rs. released ++ rs) (turn-append k us u) ∙ sym (append_assoc released (at_turn k us) (record { unit = u; turn = k } ∷ []))

pub one-longer : (us : List StepUnit) (u : StepUnit) → length (us ++ u ∷ []) ≡ length us + 1
one-longer [] u = refl
one-longer (w ∷ us) u = let l = one-longer us u in omega arith

-- units and their turns, one more of each
pub releases-append : (us : List StepUnit) (turns : List ℕ) (u : StepUnit) (k : ℕ) → length us ≡ length turns → releases (us ++ u ∷ []) (turns ++ k ∷ []) ≡ releases us turns ++ record { unit = u; turn = k } ∷ []
releases-append [] [] u k same = refl
releases-append [] (t ∷ turns) u k same = absurd (omega arith)
releases-append (w ∷ us) [] u k same = absurd (omega arith)
releases-append (w ∷ us) (t ∷ turns) u k same = ap (λ rs. record { unit = w; turn = t } ∷ rs) (releases-append us turns u k (omega arith))

pub last-of-one-more : (from : ℕ) (rs : List Release) (r : Release) → last_release from (rs ++ r ∷ []) ≡ r.turn
last-of-one-more = last-append

-- what feeding one unit more keeps
pub record FeedsTo (clocks : Clocks) (slots first next used : ℕ) (rings : List Ring) (done : List StepUnit) (turns : List ℕ) : Type 0 where
  pub fed : IsFed clocks slots next used rings [] first done (releases done turns)
  pub at_last : next ≤ last_release first (releases done turns)

pub feeds-more : (clocks : Clocks) (slots first next used : ℕ) (rings : List Ring) (done more : List StepUnit) (turns longer : List ℕ) (u : StepUnit) → length done ≡ length turns → more ≡ done ++ u ∷ [] → longer ≡ turns ++ next ∷ [] → IsFed clocks slots next used rings [] first (done ++ u ∷ []) (releases done turns ++ record { unit = u; turn = next } ∷ []) → FeedsTo clocks slots first next used rings more longer
feeds-more clocks slots first next used rings done more turns longer u same is_more is_longer fed =
    let r = releases-append done turns u next same in
    let l = last-append first (releases done turns) (record { unit = u; turn = next }) in
    rw (is_more, is_longer) (record { fed = rw r fed; at_last = rw (r, l) (omega arith) })

pub feeds-first : (clocks : Clocks) (slots first next : ℕ) (rings : List Ring) (waiting : List StepUnit) (turns : List ℕ) (from : ℕ) → IsFed clocks slots next 0 rings waiting from [] [] → waiting ≡ [] → turns ≡ [] → from ≡ first → next ≡ first → FeedsTo clocks slots first next 0 rings [] turns
feeds-first clocks slots first next rings waiting turns from fed none no_turns same at_first =
    rw no_turns (record { fed = rw (none, same) at fed; at_last = omega arith })

-- no unit, for a list that has none at a place
abbrev pub no_unit : StepUnit
no_unit = record { stepper = 0; first = 0; last = 0; due = 0; triple = record { interval = 0; count = 0; add = pos 0 }; up = None; reset = None }

pub one-further : (us : List StepUnit) (i : ℕ) → i < length us → take (i + 1) us ≡ take i us ++ slice_index_or us i no_unit ∷ []
one-further us i inside = let n : i + 1 ≡ suc i = omega arith in rw n (take-suc us i no_unit inside)

pub taken-length : (us : List StepUnit) (i : ℕ) → i < length us → length (take i us) ≡ i
taken-length [] i inside = absurd (omega arith)
taken-length (u ∷ us) zero inside = refl
taken-length (u ∷ us) (suc i) inside = let t = taken-length us i (omega arith) in omega arith

pub one-longer-turns : (turns : List ℕ) (k : ℕ) → length (turns ++ k ∷ []) ≡ length turns + 1
one-longer-turns [] k = refl
one-longer-turns (t ∷ turns) k = let l = one-longer-turns turns k in omega arith
