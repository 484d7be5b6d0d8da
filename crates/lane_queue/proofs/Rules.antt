-- Each step keeps the rule of a lane.
use Rattle.std.proofs.Common.{◌≡◌, ◌≢◌, ℕ, zero, suc, ◌+◌, ◌≤◌, true, true≢false, List, [], ◌∷◌, ◌++◌, length, set, sym, refl, ap, ◌∙◌, subst, ⊎_elim, append_assoc, append-nil, length-append, arith, Option, Some, None}
use mathlib.Core.Option.{some, some-ne-none}
use lib.ListN.{get_elem?}
use Rattle.crossbeam_channel.specs.Fifo.{Pushes, Pops, Forks, Merges, Learns}
use Rattle.atomic_table.proofs.Lists.{at_set, at_snoc}
use Rattle.lane_queue.specs.declared.rule.Log.{Log}
use Rattle.lane_queue.specs.Order.{RunsFrom}
use Rattle.lane_queue.specs.Rule.{side, log, nothing, grown, Knows, Agrees, IsLaned}

module _ {T : Type 0} (number : T → ℕ) where
  pub runs_longer : (first : ℕ) (xs : List T) (x : T) → RunsFrom number first xs → number x ≡ first + length xs → RunsFrom number first (xs ++ x ∷ [])
  runs_longer first [] x r e = (omega (arith, e), tt)
  runs_longer first (y ∷ ys) x r e = (r.0, runs_longer (first + 1) ys x r.1 (omega (arith, e)))

  pub runs_next : (first : ℕ) (xs : List T) (x : T) (ys : List T) → RunsFrom number first (xs ++ x ∷ ys) → number x ≡ first + length xs
  runs_next first [] x ys r = omega (arith, r.0)
  runs_next first (z ∷ zs) x ys r = let h = runs_next (first + 1) zs x ys r.1 in omega (arith, h)

  pub runs_before : (first : ℕ) (xs ys : List T) → RunsFrom number first (xs ++ ys) → RunsFrom number first xs
  runs_before first [] ys r = tt
  runs_before first (x ∷ xs) ys r = (r.0, runs_before (first + 1) xs ys r.1)

module _ {T : Type 0} where
  at_end : (l : List (Log T)) (a b : Log T) (j : ℕ) → get_elem? l j ≢ some b → get_elem? (l ++ a ∷ []) j ≡ some b → j ≡ length l
  at_end [] a b zero n e = refl
  at_end [] a b (suc j) n e = absurd (some-ne-none b (sym e))
  at_end (x ∷ xs) a b zero n e = absurd (n e)
  at_end (x ∷ xs) a b (suc j) n e = ap suc (at_end xs a b j n e)

  abbrev All : (ℕ → Log T → Type 0) → List (Log T) → Type 0
  All F views = (pass : ℕ) (v : Log T) → get_elem? views pass ≡ some v → F pass v

  all_set : (F : ℕ → Log T → Type 0) (views : List (Log T)) (pass : ℕ) (w : Log T) → F pass w → ((j : ℕ) (u : Log T) → j ≢ pass → get_elem? views j ≡ some u → F j u) → All F (set views pass w)
  all_set F views pass w mine others j u e = ⊎_elim (λ (x : (j ≡ pass) × (w ≡ u)). subst (λ (y : ℕ × Log T). F y.0 y.1) (λ i. (sym x.0 i, x.1 i)) mine)
      (λ (x : (j ≢ pass) × (get_elem? views j ≡ some u)). others j u x.0 x.1) (at_set views pass j w u e)

  -- where no other pass takes, the last one does
  apart : (vs : List (Log T)) (r : Log T) (writer room first : ℕ) (put taken : List T)
      → All (λ j u. Knows writer first put j u.put × (u.taken.may ≢ true) × (u.put.may ≡ true → u.room ≡ room)) vs
      → r.put.may ≢ true → (r.taken.first ≡ first) × (r.taken.list ≡ taken)
      → All (Agrees writer (length vs) room first put taken) (vs ++ r ∷ [])
  apart vs r writer room first put taken left shut is j u e = ⊎_elim (λ x. let k = left j u x in (k.0, (λ p. absurd (k.1 p)), k.2))
      (λ (same : r ≡ u). (
        (λ p. absurd (shut (ap (λ (y : Log T). y.put.may) same ∙ p))),
        (λ p. (at_end vs r u j (λ x. (left j u x).1 p) e, ap (λ (y : Log T). y.taken.first) (sym same) ∙ is.0, ap (λ (y : Log T). y.taken.list) (sym same) ∙ is.1)),
        λ p. absurd (shut (ap (λ (y : Log T). y.put.may) same ∙ p)),
      )) (at_snoc vs r u j e)

  no_items : (items : List T) → length items ≡ 0 → [] ≡ items
  no_items [] e = refl
  no_items (x ∷ xs) e = absurd (omega (arith, e))

  module _ (number : T → ℕ) where
    abbrev fresh : Log T
    fresh = log 0 (side true 0 []) (side true 0 [])

    pub begins : IsLaned number [] (fresh ∷ [])
    begins = (0, 0, 0, 0, [], [], refl, omega arith, tt, all_set (Agrees 0 0 0 0 [] []) (fresh ∷ []) 0 fresh ((λ _. (refl, refl, refl)), (λ _. (refl, refl, refl)), λ _. refl) (λ j u other e. absurd (other (at_end [] _ u j (λ x. some-ne-none u (sym x)) e))))

    pub puts : (n pass : ℕ) (v : Log T) (x : T) → v.put.may ≡ true → v.room ≡ n → number x ≡ v.put.first + length v.put.list → Pushes (IsLaned number) n pass v x (λ w. w ≡ log v.room (grown v.put x) v.taken)
    puts n pass v x may whole next items views short (writer, reader, room, first, put, taken, order, few, runs, each) at =
        let w : Log T = log v.room (grown v.put x) v.taken in let mine = (each pass v at).0 may in let is_room = (each pass v at).2 may in let longer = put ++ x ∷ [] in (
          w,
          (
            writer,
            reader,
            room,
            first,
            longer,
            taken,
            ap (λ l. l ++ x ∷ []) order ∙ append_assoc taken items (x ∷ []),
            omega (arith, short, whole, is_room, length-append items (x ∷ [])),
            runs_longer number first put x runs (next ∙ (λ i. mine.1 i + length (mine.2 i))),
            all_set (Agrees writer reader room first longer taken) views pass w ((λ _. (mine.0, mine.1, ap (λ l. l ++ x ∷ []) mine.2)), (each pass v at).1, λ _. is_room)
                (λ j u other e. ((λ p. absurd (other (((each j u e).0 p).0 ∙ sym mine.0))), (each j u e).1, (each j u e).2)),
          ),
          refl,
        )

    pub takes : (pass : ℕ) (v : Log T) → v.taken.may ≡ true → Pops (IsLaned number) pass v (λ x w. (w ≡ log v.room v.put (grown v.taken x)) × (number x ≡ v.taken.first + length v.taken.list))
    takes pass v may x items views (writer, reader, room, first, put, taken, order, few, runs, each) at =
        let w : Log T = log v.room v.put (grown v.taken x) in let mine = (each pass v at).1 may in let longer = taken ++ x ∷ [] in (
          w,
          (
            writer,
            reader,
            room,
            first,
            put,
            longer,
            order ∙ sym (append_assoc taken (x ∷ []) items),
            omega (arith, few),
            runs,
            all_set (Agrees writer reader room first put longer) views pass w ((each pass v at).0, (λ _. (mine.0, mine.1, ap (λ l. l ++ x ∷ []) mine.2)), (each pass v at).2)
                (λ j u other e. ((each j u e).0, (λ p. absurd (other (((each j u e).1 p).0 ∙ sym mine.0))), (each j u e).2)),
          ),
          (refl, runs_next number first taken x items (subst (RunsFrom number first) order runs) ∙ sym (λ i. mine.1 i + length (mine.2 i))),
        )

    -- the pass of an unused lane is cut, and the lane gets its room and its first number
    pub cuts : (pass room first : ℕ) → Forks (IsLaned number) pass fresh (log room (side true first []) nothing) (log 0 nothing (side true first []))
    cuts pass room first items views (writer, reader, _, _, put, taken, order, few, runs, each) at =
        let l : Log T = log room (side true first []) nothing in let r : Log T = log 0 nothing (side true first []) in
        let mine = each pass fresh at in let vs : List (Log T) = set views pass l in
        let empty : [] ≡ items = ((mine.0 refl).2 ∙ order) ∙ ap (λ t. t ++ items) (sym (mine.1 refl).2) in
        let Left : ℕ → Log T → Type 0 = λ j u. Knows writer first [] j u.put × (u.taken.may ≢ true) × (u.put.may ≡ true → u.room ≡ room) in
        let left : All Left vs = all_set Left views pass l ((λ _. ((mine.0 refl).0, refl, refl)), (λ p. true≢false (sym p)), λ _. refl)
        (λ j u other e. let apart : u.put.may ≢ true = λ p. other (((each j u e).0 p).0 ∙ sym (mine.0 refl).0) in ((λ p. absurd (apart p)), (λ p. other (((each j u e).1 p).0 ∙ sym (mine.1 refl).0)), λ p. absurd (apart p))) in (
          writer,
          length vs,
          room,
          first,
          [],
          [],
          empty,
          subst (λ l. length l ≤ room) empty (omega arith),
          tt,
          λ j u e. ⊎_elim (λ x. ((left j u x).0, (λ p. absurd ((left j u x).1 p)), (left j u x).2))
              (λ (is : r ≡ u). ((λ p. absurd (true≢false (sym (ap (λ (y : Log T). y.put.may) is ∙ p)))), (λ p. (at_end vs r u j (λ x. (left j u x).1 p) e, ap (λ (y : Log T). y.taken.first) (sym is), ap (λ (y : Log T). y.taken.list) (sym is))), λ p. absurd (true≢false (sym (ap (λ (y : Log T). y.put.may) is ∙ p))))) (at_snoc vs r u j e),
        )

    -- the side that takes is cut off
    pub parts : (pass : ℕ) (v : Log T) → v.taken.may ≡ true → Forks (IsLaned number) pass v (log v.room v.put nothing) (log 0 nothing v.taken)
    parts pass v may items views (writer, reader, room, first, put, taken, order, few, runs, each) at =
        let l : Log T = log v.room v.put nothing in let r : Log T = log 0 nothing v.taken in
        let all = each pass v at in let mine = all.1 may in let vs : List (Log T) = set views pass l in
        let Left : ℕ → Log T → Type 0 = λ j u. Knows writer first put j u.put × (u.taken.may ≢ true) × (u.put.may ≡ true → u.room ≡ room) in
        let left : All Left vs = all_set Left views pass l (all.0, (λ p. true≢false (sym p)), all.2)
        (λ j u other e. ((each j u e).0, (λ p. other (((each j u e).1 p).0 ∙ sym mine.0)), (each j u e).2)) in
        (writer, length vs, room, first, put, taken, order, few, runs, apart vs r writer room first put taken left (λ p. absurd (true≢false (sym p))) (mine.1, mine.2))

    -- one more message passes both sides, and the side that takes is cut off
    pub passes : (pass : ℕ) (v : Log T) (x : T) → v.put.may ≡ true → v.taken.may ≡ true → number x ≡ v.put.first + length v.put.list → v.taken.first + length v.taken.list ≡ v.put.first + length v.put.list
        → Forks (IsLaned number) pass v (log v.room (grown v.put x) nothing) (log 0 nothing (grown v.taken x))
    passes pass v x a b next even items views (writer, reader, room, first, put, taken, order, few, runs, each) at =
        let l : Log T = log v.room (grown v.put x) nothing in let r : Log T = log 0 nothing (grown v.taken x) in
        let all = each pass v at in let m = all.0 a in let n = all.1 b in let vs : List (Log T) = set views pass l in
        let long = ap length order in let sum = length-append taken items in let lp = ap length m.2 in let lt = ap length n.2 in let fp = m.1 in let ft = n.1 in
        let empty : [] ≡ items = no_items items (omega arith) in
        let same : put ≡ taken = order ∙ (ap (λ t. taken ++ t) (sym empty) ∙ append-nil taken) in
        let put' = put ++ x ∷ [] in let taken' = taken ++ x ∷ [] in
        let Left : ℕ → Log T → Type 0 = λ j u. Knows writer first put' j u.put × (u.taken.may ≢ true) × (u.put.may ≡ true → u.room ≡ room) in
        let left : All Left vs = all_set Left views pass l ((λ _. (m.0, m.1, ap (λ y. y ++ x ∷ []) m.2)), (λ p. true≢false (sym p)), all.2)
        (λ j u other e. ((λ p. absurd (other (((each j u e).0 p).0 ∙ sym m.0))), (λ p. other (((each j u e).1 p).0 ∙ sym n.0)), (each j u e).2)) in (
          writer,
          length vs,
          room,
          first,
          put',
          taken',
          ap (λ y. y ++ x ∷ []) same ∙ (sym (append-nil taken') ∙ ap (λ t. taken' ++ t) empty),
          few,
          runs_longer number first put x runs (next ∙ (λ i. m.1 i + length (m.2 i))),
          apart vs r writer room first put' taken' left (λ p. absurd (true≢false (sym p))) (n.1, ap (λ y. y ++ x ∷ []) n.2),
        )

    pub joins : (pass : ℕ) (v : Log T) (other : ℕ) (u : Log T) → v.put.may ≡ true → u.taken.may ≡ true → Merges (IsLaned number) pass v other u (log v.room v.put u.taken) (log 0 nothing nothing)
    joins pass v other u a b items views (writer, reader, room, first, put, taken, order, few, runs, each) at two at' =
        let both : Log T = log v.room v.put u.taken in let mine = each pass v at in let vs : List (Log T) = set views pass both in
        let was : get_elem? views other ≡ some u = ⊎_elim (λ x. absurd (two x.0)) (λ x. x.1) (at_set views pass other both u at') in let theirs = (each other u was).1 b in
        let Now : ℕ → Log T → Type 0 = λ j y. j ≢ other → Agrees writer pass room first put taken j y in
        let now : All Now vs = all_set Now views pass both (λ _. (mine.0, (λ _. (refl, theirs.1, theirs.2)), mine.2)) (λ j y _ e apart. ((each j y e).0, (λ p. absurd (apart (((each j y e).1 p).0 ∙ sym theirs.0))), (each j y e).2)) in
        (writer, pass, room, first, put, taken, order, few, runs, all_set (Agrees writer pass room first put taken) vs other (log 0 nothing nothing) ((λ p. absurd (true≢false (sym p))), (λ p. absurd (true≢false (sym p))), λ p. absurd (true≢false (sym p))) (λ j y apart e. now j y e apart))

    pub totals : (pass : ℕ) (v : Log T) → v.put.may ≡ true → v.taken.may ≡ true → Learns (IsLaned number) pass v (λ items. (v.put.list ≡ v.taken.list ++ items) × (length items ≤ v.room) × (v.taken.first ≡ v.put.first) × RunsFrom number v.put.first v.put.list × RunsFrom number v.put.first v.taken.list)
    totals pass v a b items views (writer, reader, room, first, put, taken, order, few, runs, each) at = let mine = each pass v at in
        let all : RunsFrom number v.put.first v.put.list = subst (λ (y : ℕ × List T). RunsFrom number y.0 y.1) (λ i. (sym (mine.0 a).1 i, sym (mine.0 a).2 i)) runs in
        let total : v.put.list ≡ v.taken.list ++ items = ((mine.0 a).2 ∙ order) ∙ ap (λ l. l ++ items) (sym (mine.1 b).2) in (
          total,
          subst (λ n. length items ≤ n) (sym (mine.2 a)) few,
          (mine.1 b).1 ∙ sym (mine.0 a).1,
          all,
          runs_before number v.put.first v.taken.list items (subst (RunsFrom number v.put.first) total all),
        )
