-- One pin of a board's own dictionary.
use Rattle.std.proofs.Common.{◌≡◌, ℕ, Bool, true, false, List, refl, sym}
use Rattle.std.specs.Str.{IsUtf8, is_utf8}
use Rattle.std.proofs.lemmas.Str.{IsUtf8-from_is_utf8, is_utf8-from_IsUtf8}
use Rattle.serde_json.specs.Data.{Data, Members, put}
use Rattle.msg_dict.specs.Own.{whole, with_pin}

pub pin_put : (name text : List ℕ) (n : ℕ) (d : Data) (old new : Members) → IsUtf8 name → text ≡ name → d ≡ whole n → new ≡ put text d old → new ≡ with_pin (is_utf8 name) name n old
pin_put name text n d old new u t e p = rw (is_utf8-from_IsUtf8 name u, sym t, sym e) p

by_test : (b : Bool) (name : List ℕ) (n : ℕ) (old : Members) → (b ≡ true → ⊥) → old ≡ with_pin b name n old
by_test true name n old h = absurd (h refl)
by_test false name n old h = refl

pub pin_left : (name : List ℕ) (n : ℕ) (old : Members) → (IsUtf8 name → ⊥) → old ≡ with_pin (is_utf8 name) name n old
pin_left name n old h = by_test (is_utf8 name) name n old (λ e. h (IsUtf8-from_is_utf8 name e))
