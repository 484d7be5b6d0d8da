-- What the host hears in a turn.
use Rattle.std.proofs.Common.{◌≡◌, ℕ, false, true, List, [], ◌∷◌, ◌++◌, Option, Some, None, take, refl, ap, sym, ◌∙◌, subst, append-nil, append_assoc}
use Rattle.std.proofs.Math.Nat.{max-eq_right}
use Rattle.plan_types.specs.declared.plan.BoardState.{BoardState}
use Rattle.plan_types.specs.declared.plan.BoardState.TheVariants.{Running, Shut}
use Rattle.msg_code.specs.declared.cmd.Cmd.{Cmd}
use Rattle.msg_code.specs.declared.talk.News.{News}
use Rattle.msg_code.specs.declared.talk.ShutNews.{ShutNews}
use Rattle.link_core.specs.Core.{Link, Reply, InStep, Rise}
use Rattle.link_core.specs.Core as link
use Rattle.wire_scene.specs.declared.scene.Way.TheVariants.{Up}
use Rattle.wire_scene.specs.declared.wire.Fate.{Fate}
use Rattle.wire_scene.specs.Wire.{Copy, IsOldest, is_oldest_due, copies_left}
use Rattle.board_world.specs.Stands.{SeenWorld, WorldStandsFor, IsFirstAnswer}
use Rattle.board_world.specs.World.{Core, Step, world_after, run_world}
use Rattle.link_work.specs.Turn.{come}
use Rattle.link_work.specs.Stands.{comes_now}
use Rattle.link_work.specs.Told.{AddsNews, AreNews, IsShutNews, heard_at, heard_in, news_of}
use Rattle.link_work.proofs.Coming.{come_first, none_comes}

pub heard_append : (first rest : List Step) (h : Core) → heard_in (first ++ rest) h ≡ heard_in first h ++ heard_in rest (run_world first h)
heard_append [] rest h = refl
heard_append (s ∷ first) rest h =
    ap (λ rs. heard_at s h ++ rs) (heard_append first rest (world_after h s)) ∙ sym (append_assoc (heard_at s h) (heard_in first (world_after h s)) (heard_in rest (run_world first (world_after h s))))

news_append : (rs qs : List Reply) (m n : List News) → AreNews rs m → AreNews qs n → AreNews (rs ++ qs) (m ++ n)
news_append [] qs m n e t =
    let At : List News → Type 0 = λ x. AreNews qs (x ++ n) in
    subst At (sym e) t
news_append (r ∷ rs) qs m n s t =
    (s.0, s.1 ++ n, s.2, news_append rs qs s.1 n s.3 t, ap (λ x. x ++ n) s.4 ∙ append_assoc (news_of r s.0) s.1 n)

pub adds_none : (news : List News) → AddsNews news news []
adds_none news = ([], sym (append-nil news), refl)

pub adds_both : (a b c : List News) (rs qs : List Reply) → AddsNews a b rs → AddsNews b c qs → AddsNews a c (rs ++ qs)
adds_both a b c rs qs s t =
    (s.0 ++ t.0, t.1 ∙ ap (λ x. x ++ t.0) s.1 ∙ append_assoc a s.0 t.0, news_append rs qs s.0 t.0 s.2 t.2)

pub adds_no_more : (a b : List News) (rs : List Reply) → AddsNews a b rs → AddsNews a b (rs ++ [])
adds_no_more a b rs s =
    let At : List Reply → Type 0 = λ x. AddsNews a b x in
    subst At (sym (append-nil rs)) s

-- what the host heard of what is due: the rest is heard from a later state
pub record HeardSo (turn : ℕ) (s : SeenWorld) (before now : List News) (h : Core) (first copies : List Copy) : Type 0 where
  pub core : Core
  pub stands : WorldStandsFor s core
  pub done : List Reply
  pub adds : AddsNews before now done
  pub rest : heard_in (come Up turn first) h ≡ done ++ heard_in (come Up turn copies) core

abbrev pub HasHeard : ℕ → SeenWorld → SeenWorld → List News → List News → List Copy → List Copy → Type 0
HasHeard turn old s before now first copies = (h : Core) → WorldStandsFor old h → HeardSo turn s before now h first copies

pub none_heard_yet : (turn : ℕ) (s : SeenWorld) (news : List News) (copies : List Copy) → HasHeard turn s s news news copies copies
none_heard_yet turn s news copies h st = record { core = h; stands = st; done = []; adds = adds_none news; rest = refl }

pub one_more_heard : (turn : ℕ) (old s next : SeenWorld) (before now later : List News) (first copies after : List Copy) (bytes : List ℕ) (fate : Fate)
    → HasHeard turn old s before now first copies → is_oldest_due turn copies ≡ true → IsOldest copies bytes fate → after ≡ copies_left copies
    → ((h : Core) → WorldStandsFor s h → WorldStandsFor next (run_world (comes_now Up fate) h)) → ((h : Core) → WorldStandsFor s h → AddsNews now later (heard_in (comes_now Up fate) h))
    → HasHeard turn old next before later first after
one_more_heard turn old s next before now later first copies after bytes fate has due is e step hears h st =
    let was = has h st in
    let g = was.core in
    let steps = comes_now Up fate in
    let To : List Copy → Type 0 = λ x. HeardSo turn next before later h first x in
    subst To (sym e) (record {
      core = run_world steps g;
      stands = step g was.stands;
      done = was.done ++ heard_in steps g;
      adds = adds_both before now later was.done (heard_in steps g) was.adds (hears g was.stands);
      rest = was.rest ∙ ap (λ ss. was.done ++ heard_in ss g) (come_first Up turn copies bytes fate due is)
          ∙ ap (λ rs. was.done ++ rs) (heard_append steps (come Up turn (copies_left copies)) g)
          ∙ sym (append_assoc was.done (heard_in steps g) (heard_in (come Up turn (copies_left copies)) (run_world steps g)));
    })

pub all_heard : (turn : ℕ) (old s : SeenWorld) (before now : List News) (first copies : List Copy) → HasHeard turn old s before now first copies → is_oldest_due turn copies ≡ false
    → (h : Core) → WorldStandsFor old h → AddsNews before now (heard_in (come Up turn first) h)
all_heard turn old s before now first copies has due h st =
    let was = has h st in
    let At : List Reply → Type 0 = λ rs. AddsNews before now rs in
    subst At (sym (was.rest ∙ ap (λ ss. was.done ++ heard_in ss was.core) (none_comes Up turn copies due))) (adds_no_more before now was.done was.adds)

-- the oldest reply
pub no_answer : (us : List Reply) (news : List News) → IsFirstAnswer us None → AddsNews news news (take 1 us)
no_answer [] news is = adds_none news
no_answer (r ∷ rs) news is = ([], sym (append-nil news), (None, [], is, refl, refl))

some_none : (c : Cmd) → Some c ≡ None → ⊥
some_none c e = cc

pub an_answer : (us : List Reply) (before now : List News) (c : Cmd) (number : ℕ) → IsFirstAnswer us (Some c) → now ≡ before ++ record { number = number; answer = c } ∷ []
    → ((r : Reply) (rs : List Reply) → us ≡ r ∷ rs → number ≡ r.number) → AddsNews before now (take 1 us)
an_answer [] before now c number is e same = absurd (some_none c is)
an_answer (r ∷ rs) before now c number is e same =
    (news_of r (Some c), e ∙ ap (λ n. before ++ record { number = n; answer = c } ∷ []) (same r rs refl), (Some c, [], is, refl, sym (append-nil (news_of r (Some c)))))

pub acked_is_number : (l : Link) (r : Reply) (rs : List Reply) → InStep l → l.up ≡ r ∷ rs → (link.reply l l.up).acked ≡ r.number
acked_is_number l r rs s e =
    let Rises : List Reply → Type 0 = λ us. Rise l.acked l.accepted us in
    let low = (subst Rises e s.up).0 in
    ap (λ us. (link.reply l us).acked) e ∙ max-eq_right low

none_some : (n : ShutNews) → None ≡ Some n → ⊥
none_some n e = cc

same_news : (m n : ShutNews) → Some m ≡ Some n → m ≡ n
same_news m n e = cc

-- what is told of a shutdown says which it was
pub one_state : (a b : BoardState) (o : Option ShutNews) → IsShutNews a o → IsShutNews b o → a ≡ b
one_state Running Running o s t = refl
one_state Running (Shut reason tick first) o s t = absurd (none_some t.0 (sym s ∙ t.1))
one_state (Shut reason tick first) Running o s t = absurd (none_some s.0 (sym t ∙ s.1))
one_state (Shut reason tick first) (Shut again at from) o s t =
    let same = same_news s.0 t.0 (sym s.1 ∙ t.1) in
    ap (λ x. Shut x tick first) (sym s.2 ∙ ap (λ (n : ShutNews). n.reason) same ∙ t.2)
    ∙ ap (λ x. Shut again x first) (sym s.3 ∙ ap (λ (n : ShutNews). n.tick) same ∙ t.3)
    ∙ ap (λ x. Shut again at x) (sym s.4 ∙ ap (λ (n : ShutNews). n.first) same ∙ t.4)
