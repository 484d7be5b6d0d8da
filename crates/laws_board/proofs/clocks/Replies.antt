-- What holds of each reply under way on a link: behind any event, and of the replies that come.
use Rattle.std.proofs.Common.{◌≡◌, ℕ, suc, ◌+◌, ◌-◌, Bool, true, false, List, [], ◌∷◌, ◌++◌, map, take, refl, sym, subst, inl, inr, rules}
use Rattle.laws_board.proofs.Names.{eqb_tells, leb_tells, Up, Reply, Event, Core, Step, Do, does, after_event, run_world, wire_text, come}
use Rattle.wire_scene.specs.Wire.{Copy}
use Rattle.wire_scene.specs.declared.wire.Fate.{Fate}
use Rattle.wire_scene.specs.declared.wire.Fate.TheVariants.{Lost, Last, Stays, Garbled}
use Rattle.link_core.specs.Core.{Link, Command, sent, numbered}
use Rattle.link_core.specs.Core as link
use Rattle.board_world.specs.declared.event.Event.TheVariants as event
use Rattle.link_work.specs.Told.{heard_in}
use Rattle.link_work.specs.Turn.{comes}
use Rattle.link_work.proofs.Steps.{AllOf, all_come}

-- each of some replies is so
abbrev pub AllUp : (Reply → Type 0) → List Reply → Type 0
AllUp P [] = Unit {0}
AllUp P (r ∷ rs) = P r × AllUp P rs

pub up_both : (P : Reply → Type 0) (rs qs : List Reply) → AllUp P rs → AllUp P qs → AllUp P (rs ++ qs)
up_both P [] qs k l = l
up_both P (r ∷ rs) qs k l = (k.0, up_both P rs qs k.1 l)

pub up_more : (P Q : Reply → Type 0) (rs : List Reply) → ((r : Reply) → P r → Q r) → AllUp P rs → AllUp Q rs
up_more P Q [] f k = tt
up_more P Q (r ∷ rs) f k = (f r k.0, up_more P Q rs f k.1)

pub up_first : (P : Reply → Type 0) (rs : List Reply) → AllUp P rs → AllUp P (take 1 rs)
up_first P [] k = tt
up_first P (r ∷ rs) k = (k.0, tt)

-- an empty reply is so, whatever its number
abbrev pub IsEmptySo : (Reply → Type 0) → Type 0
IsEmptySo P = (n : ℕ) → P (record { number = n; answer = [] })

-- the number of the answers to the first of these blocks, which is the one that the board expects
abbrev pub IsBehind : Link → List ℕ → ℕ → Type 0
IsBehind l [] n = ⊥
IsBehind l (m ∷ ns) n = (m ≡ l.accepted) × (n ≡ l.accepted + 1)

-- the number of the answers that a board gives in an event
abbrev pub IsNumber : Core → Event → ℕ → Type 0
IsNumber h event.Arrive n = IsBehind h.link h.link.down n
IsNumber h event.Repeat n = IsBehind h.link h.link.down n
IsNumber h e n = n ≡ h.link.accepted

-- the replies behind an event
up_sent : (P : Reply → Type 0) (l : Link) (cs : List Command) → AllUp P l.up → AllUp P (link.send l cs).up
up_sent P l [] k = k
up_sent P l (c ∷ cs) k = elim (leb_tells (suc (sent l - l.acked)) 12) [ inl p ↦ rw p.0 k | inr p ↦ rw p.0 k ]

up_arrived : (P : Reply → Type 0) (l : Link) (ns : List ℕ) → AllUp P l.up → AllUp P (link.lose l ns).up
up_arrived P l [] k = k
up_arrived P l (n ∷ ns) k = k

up_heard : (P : Reply → Type 0) (l : Link) (rs : List Reply) → AllUp P l.up → AllUp P (link.reply l rs).up
up_heard P l [] k = k
up_heard P l (r ∷ rs) k = k

up_lost : (P : Reply → Type 0) (l : Link) (rs : List Reply) → l.up ≡ rs → AllUp P rs → AllUp P (link.lose_reply l rs).up
up_lost P l [] e k = subst (AllUp P) (sym e) k
up_lost P l (r ∷ rs) e k = k.1

up_garbled : (P : Reply → Type 0) (l : Link) (ns : List ℕ) (told : Bool) → IsEmptySo P → AllUp P l.up → AllUp P (link.garble l ns told).up
up_garbled P l [] told empty k = k
up_garbled P l (n ∷ ns) true empty k = k
up_garbled P l (n ∷ ns) false empty k = up_both P l.up _ k (empty l.accepted, tt)

up_repeated : (P : Reply → Type 0) (l : Link) (ns : List ℕ) (answers : List (List ℕ)) → IsEmptySo P → ((n : ℕ) → IsBehind l ns n → AllUp P (numbered n answers)) → AllUp P l.up → AllUp P (link.repeat l ns answers).up
up_repeated P l ns answers p4 p5 p6 = search (rules, eqb_tells, up_both)

-- where empty replies and the answers of an event are so, each reply is behind it
pub up_by : (P : Reply → Type 0) (h : Core) (e : Event) → IsEmptySo P → ((n : ℕ) → IsNumber h e n → AllUp P (numbered n (map wire_text (does h e).answers))) → AllUp P h.link.up → AllUp P (after_event h e).link.up
up_by P h e p3 p4 p5 = search (rules, up_sent, wire_text, does, up_arrived, up_repeated, up_garbled, up_heard, up_lost, up_both)

-- the replies that come in some steps, and those left behind them
abbrev IsReply : Step → Type 0
IsReply (Do event.Reply) = Unit {0}
IsReply (Do event.LoseReply) = Unit {0}
IsReply s = ⊥

up_along : (P : Reply → Type 0) (steps : List Step) (h : Core) → AllOf IsReply steps → AllUp P h.link.up → AllUp P (heard_in steps h) × AllUp P (run_world steps h).link.up
up_along P [] h are k = (tt, k)
up_along P (Do event.Reply ∷ steps) h are k =
    let rest = up_along P steps (after_event h event.Reply) are.1 (up_heard P h.link h.link.up k) in
    (up_both P (take 1 h.link.up) (heard_in steps (after_event h event.Reply)) (up_first P h.link.up k) rest.0, rest.1)
up_along P (Do event.LoseReply ∷ steps) h are k = up_along P steps (after_event h event.LoseReply) are.1 (up_lost P h.link h.link.up refl k)
up_along P (s ∷ steps) h are k = absurd are.0

comes_reply : (fate : Fate) → AllOf IsReply (comes Up fate)
comes_reply Last = (tt, (tt, tt))
comes_reply Stays = (tt, (tt, (tt, tt)))
comes_reply c = (tt, tt)

-- the replies that come in a turn are so, and those under way behind it
pub up_come : (P : Reply → Type 0) (turn : ℕ) (copies : List Copy) (h : Core) → AllUp P h.link.up → AllUp P (heard_in (come Up turn copies) h) × AllUp P (run_world (come Up turn copies) h).link.up
up_come P turn copies h k = up_along P (come Up turn copies) h (all_come IsReply Up comes_reply turn copies) k
