-- What the reactor orders stands in a row of the run.
use Rattle.std.proofs.Common.{◌≡◌, ℕ, zero, suc, Bool, List, [], ◌∷◌, Option, Some, None, length, is_some, refl, sym, ap, ◌∙◌, subst, arith}
use Rattle.plan_types.specs.declared.cause.Cause.{Cause}
use Rattle.msg_code.specs.declared.talk.Note.{Note}
use Rattle.msg_code.specs.declared.talk.State.{State}
use Rattle.msg_code.specs.declared.talk.WordMsg.{WordMsg}
use Rattle.msg_code.specs.declared.unit.Control.{Control}
use Rattle.host_reactor.specs.declared.ordered.Ordered.{Ordered}
use Rattle.host_reactor.specs.Reactor.{Run, is_end}
use Rattle.host_reactor.specs.Rows.{AreControls, IsRow, HasEachBoard}
use Rattle.host_reactor.proofs.Rowing.{rowed}
use Rattle.session_work.specs.Rows.{AllEnd, AreOf}
use Rattle.session_run.specs.Reactors.{reacted}

are-of : (k : ℕ) (end : Bool) (cs : List Control) → AreControls k end cs → AreOf (λ c. c.turn) k cs
are-of k end [] h j x l = absurd (omega arith)
are-of k end (c ∷ cs) h zero x l = h.0
are-of k end (c ∷ cs) h (suc j) x l = are-of k end cs h.2 j x (omega arith)

all-end : (k : ℕ) (end : Bool) (cs : List Control) → AreControls k end cs → AllEnd end cs
all-end k end [] h j x l = absurd (omega arith)
all-end k end (c ∷ cs) h zero x l = h.1
all-end k end (c ∷ cs) h (suc j) x l = all-end k end cs h.2 j x (omega arith)

ending : (o : Option Cause) → is_end o ≡ is_some o
ending None = refl
ending (Some c) = refl

row : (x : Run) (k : ℕ) (states : List State) (note : Option Note) (o : Ordered) → HasEachBoard x.machine x.known → o ≡ (reacted x k states note).ordered → IsRow x.machine k o
row x k states note o w e = subst (IsRow x.machine k) (sym e) (rowed x.machine x.switches x.known k states note w).row

module _ (x : Run) (k : ℕ) (states : List State) (note : Option Note) (o : Ordered) (w : HasEachBoard x.machine x.known) (e : o ≡ (reacted x k states note).ordered) where
  pub controls : (cs : List Control) → cs ≡ o.controls → (length cs ≡ length x.machine.boards) × AreOf (λ c. c.turn) k cs
  controls cs same =
      let r = row x k states note o w e in (
        ap (λ (l : List Control). length l) same ∙ r.count,
        subst (λ (l : List Control). AreOf (λ c. c.turn) k l) (sym same) (are-of k (is_end o.end) o.controls r.controls),
      )

  pub word : (said : WordMsg) → said ≡ o.word → said.turn ≡ k
  word said same = ap (λ (l : WordMsg). l.turn) same ∙ (row x k states note o w e).turn

  pub last : (cs : List Control) → cs ≡ o.controls → (said : WordMsg) → said ≡ o.word → (end : Option Cause) → end ≡ o.end → (said.end ≡ is_some end) × AllEnd (is_some end) cs
  last cs same said word_is end end_is =
      let r = row x k states note o w e in
      let ends = ending o.end ∙ ap (λ (c : Option Cause). is_some c) (sym end_is) in (
        ap (λ (l : WordMsg). l.end) word_is ∙ r.end ∙ ends,
        subst (λ (l : List Control). AllEnd (is_some end) l) (sym same) (subst (λ b. AllEnd b o.controls) ends (all-end k (is_end o.end) o.controls r.controls)),
      )

pub whole : (x y : Run) (k : ℕ) (states : List State) (note : Option Note) → HasEachBoard x.machine x.known → y.machine ≡ x.machine → y.known ≡ (reacted x k states note).known → HasEachBoard y.machine y.known
whole x y k states note w same e =
    subst (λ m. HasEachBoard m y.known) (sym same) (subst (HasEachBoard x.machine) (sym e) (rowed x.machine x.switches x.known k states note w).whole)
