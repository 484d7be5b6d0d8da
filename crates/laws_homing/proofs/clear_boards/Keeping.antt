-- A group that hears what boards told keeps all else.
use Rattle.std.proofs.Common.{◌≡◌, ℕ, ◌+◌, ◌==◌, Bool, true, false, cond, not, List, [], ◌∷◌, map, Option, Some, None, refl, ap, ◌∙◌, rules}
use Rattle.std.specs.Prelude.{◌||◌, nat_le, nat_lt}
use Rattle.plan_types.specs.declared.plan.TrigState.{TrigState}
use Rattle.laws_board.proofs.Names.{nearest, Clocks, turn_in_run, turn_tick, Cmd, News, State, Seen, GroupState, Homing, hears_all}
use Rattle.msg_code.specs.declared.cmd.Cmd.TheVariants as cmd
use Rattle.trigger_group.specs.Group.{any_fired_by, came, fired_by, hears_from}
use Rattle.axis_homing.specs.Homing.{came_at, hears_answer, hears_news, hears_state, hears_states}
use Rattle.laws_homing.specs.clear_boards.Modes.{Hears}
use Rattle.laws_homing.proofs.clear_boards.Knowing.{one_still}

same : (g : GroupState) → Hears g g
same g = record { start = refl; last = refl; sent = refl; relay = refl; fired = λ e. e }

next : (g h i : GroupState) → Hears g h → Hears h i → Hears g i
next g h i a b = record { start = b.start ∙ a.start; last = b.last ∙ a.last; sent = b.sent ∙ a.sent; relay = b.relay ∙ a.relay; fired = λ e. b.fired (a.fired e) }

any_more : (a b c d : Bool) → (a ≡ true → c ≡ true) → (b ≡ true → d ≡ true) → (a || b) ≡ true → (c || d) ≡ true
any_more true b c d f g e = ap (λ (x : Bool). x || d) (f refl)
any_more false b true d f g e = refl
any_more false b false d f g e = g e

any_still : (last board tick turn : ℕ) (s : TrigState) (xs : List Seen) → any_fired_by last xs ≡ true → any_fired_by last (map (hears_from board s tick turn) xs) ≡ true
any_still last board tick turn s [] e = e
any_still last board tick turn s (x ∷ xs) e =
    any_more (fired_by last x.fired) (any_fired_by last xs) (fired_by last (hears_from board s tick turn x).fired) (any_fired_by last (map (hears_from board s tick turn) xs))
    (one_still last (x.member.board == board) s.can s tick turn x) (any_still last board tick turn s xs) e

came_keeps : (board tick turn : ℕ) (s : TrigState) (g : GroupState) → Hears g (came board s tick turn g)
came_keeps board tick turn s g = search (rules, nat_lt, any_still)

at_keeps : (board tick : ℕ) (s : TrigState) (o : Option ℕ) (g : GroupState) → Hears g (came_at board s tick o g)
at_keeps board tick s None g = same g
at_keeps board tick s (Some turn) g = came_keeps board tick turn s g

answer_keeps : (clocks : Clocks) (board turn : ℕ) (c : Cmd) (g : GroupState) → Hears g (hears_answer clocks board turn c g)
answer_keeps clocks board turn c g = search (rules, nearest, turn_tick, at_keeps, turn_in_run, same)

news_keep : (clocks : Clocks) (board turn : ℕ) (ns : List News) (g : GroupState) → Hears g (hears_news clocks board turn ns g)
news_keep clocks board turn [] g = same g
news_keep clocks board turn (n ∷ ns) g =
    next g (hears_answer clocks board turn n.answer g) (hears_news clocks board turn ns (hears_answer clocks board turn n.answer g)) (answer_keeps clocks board turn n.answer g) (news_keep clocks board turn ns (hears_answer clocks board turn n.answer g))

state_keeps : (clocks : Clocks) (board start : ℕ) (s : State) (g : GroupState) → Hears g (hears_state clocks board start s g)
state_keeps clocks board start s g = search (rules, nat_le, news_keep, same)

states_keep : (clocks : List Clocks) (board start : ℕ) (states : List State) (g : GroupState) → Hears g (hears_states clocks board start states g)
states_keep [] board start states g = same g
states_keep (c ∷ clocks) board start [] g = same g
states_keep (c ∷ clocks) board start (s ∷ states) g =
    next g (hears_state c board start s g) (hears_states clocks (board + 1) start states (hears_state c board start s g)) (state_keeps c board start s g) (states_keep clocks (board + 1) start states (hears_state c board start s g))

pub hears_keep : (clocks : List Clocks) (states : List State) (h : Homing) → Hears h.group (hears_all clocks states h).group
hears_keep clocks states h = states_keep clocks 0 h.start states h.group
