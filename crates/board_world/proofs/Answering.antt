-- Which command some bytes are.
use Rattle.std.proofs.Common.{◌≡◌, ◌↔◌, ℕ, ◌≤◌, List, [], ◌∷◌, ◌++◌, length, map, take, drop, Option, Some, None, refl, ap, sym, ◌∙◌, subst, arith, append-nil, take-append-drop}
use Rattle.std.proofs.lemmas.List.{length-take-le, take_all}
use Rattle.msg_dict.specs.Dictionary.{Named}
use Rattle.msg_code.specs.declared.cmd.Cmd.{Cmd}
use Rattle.msg_code.specs.declared.CodeFault.{CodeFault}
use Rattle.msg_code.specs.Text.{IsText, Refuses}
use Rattle.msg_code.proofs.Texts.{one_text, refused}
use Rattle.msg_dict.specs.Own.{own_formats}
use Rattle.link_core.specs.Core.{Reply}
use Rattle.board_world.specs.Stands.{IsFirstAnswer, reply_text}

joined : (n : ℕ) (bytes : List ℕ) → take n bytes ++ drop n bytes ≡ bytes ++ []
joined n bytes = take-append-drop n bytes ∙ sym (append-nil bytes)

same_some : (c d : Cmd) → Some c ≡ Some d → c ≡ d
same_some c d e = cc

pub whole_read : (es : List Named) (c : Cmd) (bytes : List ℕ) (n : ℕ) → n ≡ length bytes → IsText es c (take n bytes) → (d : Cmd) → (Some c ≡ Some d) ↔ IsText es d bytes
whole_read es c bytes n e t d =
    let all : take n bytes ≡ bytes = take_all n bytes (omega (arith, e)) in
    let At : List ℕ → Type 0 = λ x. IsText es c x in
    let Is : Cmd → Type 0 = λ x. IsText es x bytes in (
      λ same. subst Is (same_some c d same) (subst At all t),
      λ u. ap Some (one_text es c d (take n bytes) bytes (drop n bytes) [] t u (joined n bytes)).1,
    )

none_is : (d : Cmd) → None ≡ Some d → ⊥
none_is d e = cc

pub part_read : (es : List Named) (c : Cmd) (bytes : List ℕ) (n : ℕ) → n ≤ length bytes → (n ≡ length bytes → ⊥) → IsText es c (take n bytes) → (d : Cmd) → (None ≡ Some d) ↔ IsText es d bytes
part_read es c bytes n within differs t d = (
  λ same. absurd (none_is d same),
  λ u.
      let alike = (one_text es c d (take n bytes) bytes (drop n bytes) [] t u (joined n bytes)).0 in
      absurd (differs (sym (length-take-le n bytes within) ∙ ap length alike)),
)

pub none_read : (es : List Named) (bytes : List ℕ) (f : CodeFault) → Refuses es bytes f → (d : Cmd) → (None ≡ Some d) ↔ IsText es d bytes
none_read es bytes f r d = (
  λ same. absurd (none_is d same),
  λ u. absurd (refused es bytes bytes [] f d r u (sym (append-nil bytes))),
)

pub answered : (us rs : List Reply) (r : Reply) (o : Option Cmd) (es : List Named) (bytes : List ℕ) → us ≡ r ∷ rs → es ≡ own_formats → bytes ≡ r.answer
    → ((c : Cmd) → (o ≡ Some c) ↔ IsText es c bytes) → IsFirstAnswer us o
answered us rs r o es bytes is own same reads =
    let AtFormats : List Named → Type 0 = λ x. (c : Cmd) → (o ≡ Some c) ↔ IsText x c bytes in
    let AtBytes : List ℕ → Type 0 = λ x. (c : Cmd) → (o ≡ Some c) ↔ IsText own_formats c x in
    let At : List Reply → Type 0 = λ x. IsFirstAnswer x o in
    subst At (sym is) (subst AtBytes same (subst AtFormats own reads))

pub none_answered : (us : List Reply) → map reply_text us ≡ [] → IsFirstAnswer us None
none_answered [] e = refl
none_answered (r ∷ rs) e = absurd (omega (arith, ap length e))
