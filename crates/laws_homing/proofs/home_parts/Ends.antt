-- A homing section ends in the turn whose word tells of its answer.
use Rattle.std.proofs.Common.{◌≡◌, ℕ, suc, ◌+◌, ◌-◌, ◌^◌, ◌<◌, ◌≤◌, List, [], ◌∷◌, ◌++◌, length, take, append_assoc, Option, Some, None, refl, ap, sym, ◌∙◌, subst, arith, inl, inr}
use Rattle.laws_board.proofs.Names.{leb_tells, length-map, Machine, Home, WordMsg, Switch, Came, Started, Told, MotionTurn, item}
use Rattle.motion_work.specs.Homes.{no_end}
use Rattle.laws_board.specs.plans.Answers.{EndByWords, EndsByWord, TookNoneAhead}
use Rattle.laws_board.proofs.plans.Heard.{heard_all, heard_few}
use Rattle.laws_board.specs.plans.Planned.{AreToldBy, Plans, put_of, words_in}
use Rattle.laws_board.specs.plans.Rows.{AreInARow}
use Rattle.laws_board.proofs.plans.Rows.{Among, among_here, among_parts, begun_row, row_from, row_later, row_past}
use Rattle.laws_homing.specs.home_parts.Answers.{IsPlannedBy, TellNone, TellsIn}
use Rattle.laws_homing.proofs.home_parts.Known.{tells_low, told_at, turn_tells, word_tells}
use Rattle.laws_homing.proofs.home_parts.Taken.{IsTelling, ahead_by, by_more, takes_word, waits_by, waits_word}

module _ (m : Machine) (switches : List Switch) (n : ℕ) (ts : List MotionTurn) (p : Plans m n ts) (came : List Came) (by : IsPlannedBy m switches n ts p came) where
  abbrev Hears : List MotionTurn
  Hears = p.made ++ p.last

  abbrev Words : List WordMsg
  Words = words_in Hears

  abbrev Count : ℕ → ℕ
  Count turns = length (words_in (take turns Hears))

  ahead : TookNoneAhead 0 0 Hears
  ahead = (heard_all m n ts p).ahead

  row : (told : Option Told) → AreToldBy m told p.seen.begun → (ready : ℕ) × AreInARow ready p.seen.begun
  row None e = (0, subst (AreInARow 0) (sym e) tt)
  row (Some t) a = (t.first, begun_row m t.clocks t.first p.seen.begun a)

  pub ready : ℕ
  ready = (row p.seen.told p.sections).0

  pub in_row : AreInARow ready p.seen.begun
  unfolding ready row
  in_row = (row p.seen.told p.sections).1

  small : length p.made ≤ 2 ^ 61
  small = let e = length-map p.made put_of in let f = p.small in omega (arith, e, f)

  -- a section whose answer was told in the turn in which it ends, by a word that was taken by then
  abbrev WasTold : Started → Type 0
  WasTold s = (axis : ℕ) → s.section.kind ≡ Home axis → (s.end ≡ no_end → ⊥) → (s.end < length came) × TellsIn m switches s.end came × (s.end < Count (suc s.end)) × (s.end < length Hears)

  abbrev WereTold : List Started → Type 0
  WereTold [] = Unit {0}
  WereTold (s ∷ ss) = WasTold s × WereTold ss

  were_at : (x : Started) (ss : List Started) → WereTold ss → Among x ss → WasTold x
  were_at x [] w a = absurd a
  were_at x (s ∷ ss) w (inl e) = subst WasTold (sym e) w.0
  were_at x (s ∷ ss) w (inr a) = were_at x ss w.1 a

  were_snoc : (past : List Started) (s : Started) → WereTold past → WasTold s → WereTold (past ++ s ∷ [])
  were_snoc [] s w one = (one, tt)
  were_snoc (y ∷ past) s w one = (w.0, were_snoc past s w.1 one)

  were_front : (past rest : List Started) → WereTold (past ++ rest) → WereTold past
  were_front [] rest w = tt
  were_front (y ∷ past) rest w = (w.0, were_front past rest w.1)

  were_here : (past : List Started) (s : Started) (rest : List Started) → WereTold (past ++ s ∷ rest) → WasTold s
  were_here [] s rest w = w.0
  were_here (y ∷ past) s rest w = were_here past s rest w.1

  -- one that is told of before another has started is an earlier one, and was not told of before
  record IsEarlier (past : List Started) (j : ℕ) : Type 0 where
    x : Started
    axis : ℕ
    home : x.section.kind ≡ Home axis
    among : Among x past
    none : x.end < j → TellsIn m switches x.end came → ⊥

  earlier : (past : List Started) (s : Started) (later : List Started) (j : ℕ) → p.seen.begun ≡ past ++ s ∷ later → j < s.start → TellsIn m switches j came → IsEarlier past j
  earlier past s later j cut soon t =
      let d = told_at m switches p.seen.begun j came by.goes_on by.notes t in
      let Row : List Started → Type 0 = λ ss. AreInARow ready ss in
      let r = subst Row cut in_row in
      let late = d.late in
      elim (among_parts d.s past s later (subst (Among d.s) (sym d.cut ∙ cut) (among_here d.past d.s d.later))) [
        | inl a ↦
            let order = (row_past ready d.s past s later r a).0 in
            record { x = d.s; axis = d.axis; home = d.home; among = a; none = λ low u. d.none d.s.end (omega (arith, order)) low u }
        | inr b ↦ elim b [
          | inl e ↦ absurd (let same = ap (λ (z : Started). z.start) e in omega (arith, same, late, soon))
          | inr a ↦ absurd (let far = row_later ready d.s past s later r a in let order = (row_from ready past s later r).1 in omega (arith, far, order, late, soon))
        ]
      ]

  -- no word tells of an answer from the note that begins a section up to its start
  lead_none : (past : List Started) (s : Started) (later : List Started) (j : ℕ) → p.seen.begun ≡ past ++ s ∷ later → WereTold past → s.start ≤ j + 259 → j < s.start → TellsIn m switches j came → ⊥
  lead_none past s later j cut w from soon t =
      let e = earlier past s later j cut soon t in
      let Row : List Started → Type 0 = λ ss. AreInARow ready ss in
      let far = (row_past ready e.x past s later (subst Row cut in_row) e.among).1 in
      let low = tells_low m switches j came t in
      let long = by.long in
      e.none (omega (arith, far, from)) (were_at e.x past w e.among e.axis e.home (λ none. omega (arith, none, far, from, low, long, small))).1

  ends_at : (past : List Started) (s : Started) (later : List Started) (axis : ℕ) (begun : List Started) → begun ≡ past ++ s ∷ later → s.section.kind ≡ Home axis → EndByWords 0 0 Hears begun → EndsByWord 0 0 Hears s
  ends_at past s later axis begun cut home all = at past (subst (EndByWords 0 0 Hears) cut all)
    where
      at : (ss : List Started) → EndByWords 0 0 Hears (ss ++ s ∷ later) → EndsByWord 0 0 Hears s
      at [] a = a.0 axis home
      at (y ∷ ss) a = at ss a.1

  -- nor while it waits
  wait_none : (past : List Started) (s : Started) (later : List Started) (axis j : ℕ) → p.seen.begun ≡ past ++ s ∷ later → s.section.kind ≡ Home axis → s.start ≤ j → j < s.end → j < length Hears → TellsIn m switches j came → ⊥
  wait_none past s later axis j cut home late soon few t =
      let a = ends_at past s later axis p.seen.begun cut home p.answers in
      let w = waits_word s.start s.end 0 0 j Hears (omega arith) (omega arith) (omega (arith, few)) late soon a.waits ahead in
      let e : j ≡ j - 0 = omega arith in
      w.2 (turn_tells m switches Words j came w.0 by.words t (ap (λ i. item i Words) e ∙ w.1))

  -- and it ends as one tells
  was_told : (past : List Started) (s : Started) (later : List Started) → p.seen.begun ≡ past ++ s ∷ later → WereTold past → WasTold s
  was_told past s later cut w axis home known =
      let a = ends_at past s later axis p.seen.begun cut home p.answers in
      elim a.ends [
        | inl early ↦ absurd (omega (arith, early))
        | inr e ↦ elim e [ inl none ↦ absurd (known none) | inr took ↦ told_by a (takes_word s.end 0 Hears took) ]
      ]
    where
      Row : List Started → Type 0
      Row ss = AreInARow ready ss

      told_by : EndsByWord 0 0 Hears s → IsTelling s.end 0 Hears → (s.end < length came) × TellsIn m switches s.end came × (s.end < Count (suc s.end)) × (s.end < length Hears)
      told_by a t =
          let at = t.at in
          let less = t.low in
          let behind = t.behind in
          let before = t.before in
          let order = (row_from ready past s later (subst Row cut in_row)).1 in
          let most = ahead_by 0 0 t.turn Hears ahead less in
          let one_more = heard_few m n ts p in
          let low : t.place < length came = elim (leb_tells (suc t.place) (length came)) [ inl q ↦ q.1 | inr q ↦ absurd (by.others t.place t.word (let far = q.1 in omega (arith, far)) t.is t.tells) ] in
          let place : t.place ≡ s.end = elim (leb_tells (suc s.start) s.end) [
            | inl q ↦
                let late = q.1 in
                let d = s.end - 1 in
                let least = waits_by s.start s.end 0 0 d Hears a.waits (omega (arith, at, less)) (omega (arith, late)) (omega (arith, late)) in
                let same : suc d ≡ t.turn = omega (arith, late, at) in
                let counts = ap (λ i. Count i) same in
                omega (arith, least, counts, behind, before, most, at, late)
            | inr q ↦ elim (leb_tells (suc t.place) s.end) [
              | inl sooner ↦
                  let soon = sooner.1 in
                  let near = q.1 in
                  let u = word_tells m switches Words t.place came t.word by.words low t.is t.tells in
                  let e = earlier past s later t.place cut (omega (arith, soon, near, order)) u in
                  let far = (row_past ready e.x past s later (subst Row cut in_row) e.among).1 in
                  let x = were_at e.x past w e.among e.axis e.home (λ none. omega (arith, none, far, near, at, less, one_more, small)) in
                  let taken = x.2 in
                  let more = by_more (suc e.x.end) t.turn Hears (omega (arith, far, near, at)) in
                  absurd (e.none (omega (arith, taken, more, behind)) x.1)
              | inr later_on ↦ let far = later_on.1 in omega (arith, far, before, most, at)
            ]
          ] in
          let same : t.turn ≡ s.end = omega (arith, at) in
          let Before : ℕ → Type 0 = λ i. t.place < Count (suc i) in
          let here = subst Before same before in
          let is_low : s.end < length came = omega (arith, place, low) in (
            is_low,
            word_tells m switches Words s.end came t.word by.words is_low (ap (λ i. item i Words) (sym place) ∙ t.is) t.tells,
            omega (arith, place, here),
            omega (arith, same, less),
          )

  told_from : (past rest : List Started) → p.seen.begun ≡ past ++ rest → WereTold past → WereTold rest
  told_from past [] cut w = tt
  told_from past (s ∷ rest) cut w =
      let one = was_told past s rest cut w in
      (one, told_from (past ++ s ∷ []) rest (cut ∙ sym (append_assoc past (s ∷ []) rest)) (were_snoc past s w one))

  all_told : WereTold p.seen.begun
  all_told = told_from [] p.seen.begun refl tt

  told_here : (past : List Started) (s : Started) (later : List Started) (axis : ℕ) → p.seen.begun ≡ past ++ s ∷ later → s.section.kind ≡ Home axis → s.end < length came → TellsIn m switches s.end came
  told_here past s later axis cut home low = let long = by.long in (were_here past s later (subst WereTold cut all_told) axis home (λ none. omega (arith, none, low, long, small))).1

  pub told_low : (past : List Started) (s : Started) (later : List Started) (axis : ℕ) → p.seen.begun ≡ past ++ s ∷ later → s.section.kind ≡ Home axis → (s.end ≡ no_end → ⊥) → s.end < length came
  told_low past s later axis cut home known = (were_here past s later (subst WereTold cut all_told) axis home known).0

  pub told_made : (past : List Started) (s : Started) (later : List Started) (axis : ℕ) → p.seen.begun ≡ past ++ s ∷ later → s.section.kind ≡ Home axis → (s.end ≡ no_end → ⊥) → s.end < length Hears
  told_made past s later axis cut home known = (were_here past s later (subst WereTold cut all_told) axis home known).3

  none_from : (past : List Started) (s : Started) (later : List Started) (axis from : ℕ) → p.seen.begun ≡ past ++ s ∷ later → s.section.kind ≡ Home axis → from + 259 ≡ s.start → (turns : List Came)
      → ((j : ℕ) → TellsIn m switches j turns → TellsIn m switches j came) → length turns ≤ length Hears → TellNone m switches from s.end turns
  none_from past s later axis from cut home at [] in_all few = tt
  none_from past s later axis from cut home at (c ∷ before) in_all few = (
    λ late soon t.
        let u = in_all (length before) (inl (refl, t)) in
        elim (leb_tells (suc (length before)) s.start) [
          | inl q ↦ lead_none past s later (length before) cut (were_front past (s ∷ later) (subst WereTold cut all_told)) (omega (arith, late, at)) q.1 u
          | inr q ↦ let far = q.1 in wait_none past s later axis (length before) cut home (omega (arith, far)) soon (omega (arith, few)) u
        ],
    none_from past s later axis from cut home at before (λ j u. in_all j (inr u)) (omega (arith, few)),
  )

pub ends_told : (m : Machine) (switches : List Switch) (n : ℕ) (ts : List MotionTurn) (p : Plans m n ts) (came : List Came) (past : List Started) (s : Started) (later : List Started) (axis : ℕ) → IsPlannedBy m switches n ts p came
    → p.seen.begun ≡ past ++ s ∷ later → s.section.kind ≡ Home axis → s.end < length came → TellsIn m switches s.end came
ends_told m switches n ts p came past s later axis by cut home low = told_here m switches n ts p came by past s later axis cut home low

-- what is told in turns is told in more
tells_more : (m : Machine) (switches : List Switch) (j : ℕ) (ahead behind : List Came) → TellsIn m switches j behind → TellsIn m switches j (ahead ++ behind)
tells_more m switches j [] behind t = t
tells_more m switches j (c ∷ ahead) behind t = inr (tells_more m switches j ahead behind t)

pub waits_silent : (m : Machine) (switches : List Switch) (n : ℕ) (ts : List MotionTurn) (p : Plans m n ts) (came ahead behind : List Came) (past : List Started) (s : Started) (later : List Started) (axis from : ℕ) → IsPlannedBy m switches n ts p came
    → came ≡ ahead ++ behind → length behind ≤ length (p.made ++ p.last) → p.seen.begun ≡ past ++ s ∷ later → s.section.kind ≡ Home axis → from + 259 ≡ s.start → TellNone m switches from s.end behind
waits_silent m switches n ts p came ahead behind past s later axis from by are few cut home at =
    none_from m switches n ts p came by past s later axis from cut home at behind (λ j t. subst (TellsIn m switches j) (sym are) (tells_more m switches j ahead behind t)) few

pub ends_low : (m : Machine) (switches : List Switch) (n : ℕ) (ts : List MotionTurn) (p : Plans m n ts) (came : List Came) (past : List Started) (s : Started) (later : List Started) (axis : ℕ) → IsPlannedBy m switches n ts p came
    → p.seen.begun ≡ past ++ s ∷ later → s.section.kind ≡ Home axis → (s.end ≡ no_end → ⊥) → s.end < length came
ends_low m switches n ts p came past s later axis by cut home known = told_low m switches n ts p came by past s later axis cut home known

pub ends_made : (m : Machine) (switches : List Switch) (n : ℕ) (ts : List MotionTurn) (p : Plans m n ts) (came : List Came) (past : List Started) (s : Started) (later : List Started) (axis : ℕ) → IsPlannedBy m switches n ts p came
    → p.seen.begun ≡ past ++ s ∷ later → s.section.kind ≡ Home axis → (s.end ≡ no_end → ⊥) → s.end < length (p.made ++ p.last)
ends_made m switches n ts p came past s later axis by cut home known = told_made m switches n ts p came by past s later axis cut home known
