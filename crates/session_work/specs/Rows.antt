-- Messages, lanes and passes board by board.
use Rattle.std.specs.Prelude.{◌≡◌, Option, Some, None, Bool, ℕ, zero, suc, ◌+◌, ◌<◌, List, [], ◌∷◌, ◌++◌, length, get_or}
use Rattle.msg_code.specs.declared.unit.Control.{Control}
use Rattle.lane_queue.specs.declared.ends.Lane.{Lane}
use Rattle.lane_queue.specs.declared.passes.SendPass.{SendPass}
use Rattle.lane_queue.specs.declared.passes.TakePass.{TakePass}
use Rattle.lane_queue.specs.Ends.{IsSendOf, IsTakeOf, put, taken, put_first, take_first, next_put, next_take}

-- the item at a place, as a list: empty where there is none
abbrev pub item : {A : Type 0} → ℕ → List A → List A
item j [] = []
item zero (x ∷ xs) = x ∷ []
item (suc j) (x ∷ xs) = item j xs

-- whether each of the controls ends the run
abbrev pub AllEnd : Bool → List Control → Type 0
AllEnd end cs = (j : ℕ) (c : Control) → j < length cs → (get_or cs j c).end ≡ end

-- so many copies
abbrev pub copies : {A : Type 0} → ℕ → A → List A
copies zero x = []
copies (suc n) x = x ∷ copies n x

-- the item, where there is one
abbrev pub option_items : {A : Type 0} → Option A → List A
option_items None = []
option_items (Some x) = x ∷ []

-- what each row gives, one row behind the other
abbrev pub gather : {T A : Type 0} → (T → List A) → List T → List A
gather f [] = []
gather f (t ∷ ts) = f t ++ gather f ts

module _ {A : Type 0} where
  -- each of the items has this number
  abbrev pub AreOf : (A → ℕ) → ℕ → List A → Type 0
  AreOf number k xs = (j : ℕ) (x : A) → j < length xs → number (get_or xs j x) ≡ k

module _ {A B : Type 0} (P : A → B → Type 0) where
  -- P holds of the items of ys and of those of xs from place i on
  abbrev pub EachFrom : ℕ → List A → List B → Type 0
  EachFrom i xs ys = (j : ℕ) (x : A) (y : B) → j < length ys → P (get_or xs (i + j) x) (get_or ys j y)

  abbrev pub Each : List A → List B → Type 0
  Each xs ys = (j : ℕ) (x : A) (y : B) → j < length ys → P (get_or xs j x) (get_or ys j y)

module _ {T : Type 0} where
  -- the pass puts into the lane, from message 0 on, and has put these
  abbrev pub HasPut : List T → Lane T → SendPass T → Type 0
  HasPut xs l p = IsSendOf l p × (put_first p ≡ 0) × (put p ≡ xs)

  -- the pass takes from the lane, from message 0 on, and has taken these
  abbrev pub HasTaken : List T → Lane T → TakePass T → Type 0
  HasTaken xs l p = IsTakeOf l p × (take_first p ≡ 0) × (taken p ≡ xs)

  -- each pass puts into its lane, and its next message is number k
  abbrev pub CanPut : ℕ → List (Lane T) → List (SendPass T) → Type 0
  CanPut k = Each (λ l p. IsSendOf l p × (next_put p ≡ k))

  -- each pass takes from its lane, and its next message is number k
  abbrev pub CanTake : ℕ → List (Lane T) → List (TakePass T) → Type 0
  CanTake k = Each (λ l p. IsTakeOf l p × (next_take p ≡ k))

  -- these messages more were put, one on each lane
  abbrev pub PutMore : List T → Lane T → SendPass T → SendPass T → Type 0
  PutMore xs l old new = IsSendOf l new × (put_first new ≡ put_first old) × (put new ≡ put old ++ xs)

  abbrev pub RowPut : List (Lane T) → List (SendPass T) → List (SendPass T) → List T → Type 0
  RowPut ls old new xs =
      (length new ≡ length old)
      × ((j : ℕ) (l : Lane T) (p q : SendPass T) → j < length new →
      PutMore (item j xs) (get_or ls j l) (get_or old j p) (get_or new j q))

  -- these messages more were taken, one from each lane
  abbrev pub TookMore : List T → Lane T → TakePass T → TakePass T → Type 0
  TookMore xs l old new = IsTakeOf l new × (take_first new ≡ take_first old) × (taken new ≡ taken old ++ xs)

  abbrev pub RowTaken : List (Lane T) → List (TakePass T) → List (TakePass T) → List T → Type 0
  RowTaken ls old new xs =
      (length new ≡ length old)
      × ((j : ℕ) (l : Lane T) (p q : TakePass T) → j < length new →
      TookMore (item j xs) (get_or ls j l) (get_or old j p) (get_or new j q))

  -- on the lane of each board its column was put
  abbrev pub HavePut : (ℕ → List T) → List (Lane T) → List (SendPass T) → Type 0
  HavePut column ls ps =
      (length ps ≡ length ls)
      × ((j : ℕ) (l : Lane T) (p : SendPass T) → j < length ps → HasPut (column j) (get_or ls j l) (get_or ps j p))

  -- the pass puts into the lane, from message 0 on; it has put the first of these, and the late ones wait
  abbrev pub HasPutBut : List T → List T → Lane T → SendPass T → Type 0
  HasPutBut late xs l p = IsSendOf l p × (put_first p ≡ 0) × (put p ++ late ≡ xs)

  -- on the lane of each board its column was put, but for what waits
  abbrev pub HavePutBut : (ℕ → List T) → (ℕ → List T) → List (Lane T) → List (SendPass T) → Type 0
  HavePutBut late column ls ps =
      (length ps ≡ length ls)
      × ((j : ℕ) (l : Lane T) (p : SendPass T) → j < length ps →
      HasPutBut (late j) (column j) (get_or ls j l) (get_or ps j p))

  -- from the lane of each board its column was taken
  abbrev pub HaveTaken : (ℕ → List T) → List (Lane T) → List (TakePass T) → Type 0
  HaveTaken column ls ps =
      (length ps ≡ length ls)
      × ((j : ℕ) (l : Lane T) (p : TakePass T) → j < length ps → HasTaken (column j) (get_or ls j l) (get_or ps j p))
