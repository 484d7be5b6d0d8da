-- A homing group hears of no member in a turn far behind the one in which it hears.
use Rattle.std.proofs.Common.{◌≡◌, ℕ, zero, suc, ◌+◌, ◌%◌, ◌^◌, ◌<◌, ◌≤◌, ◌==◌, Bool, true, false, not, cond, List, [], ◌∷◌, ◌++◌, length, map, Option, Some, None, refl, ap, sym, ◌∙◌, subst, arith, inl, inr}
use Rattle.std.specs.Prelude.{nat_lt}
use Rattle.laws_board.proofs.Names.{eqb_tells, leb_tells, Level, BoardDef, nearest, board_tick, clock_of, Clocks, clocks_at, turn_in_run, turn_tick, Entry, own_formats, Cmd, News, State, IsText, commands_of, Rig, takes_all, says, wire_text, queued_in, first_state, orders, Seen, GroupState, Homing, hears_all, state_at}
use Rattle.msg_code.specs.declared.cmd.Cmd.TheVariants as cmd
use Rattle.msg_dict.specs.declared.row.Row.TheVariants as row
use Rattle.msg_code.specs.Table.{row_of}
use Rattle.plan_types.specs.declared.plan.TrigState.{TrigState}
use Rattle.link_work.specs.Answers.{IsAmong}
use Rattle.laws_homing.specs.clear_boards.Rests.{RestsOver}
use Rattle.laws_board.specs.turns.Turns.{AreBoardTurns, BoardTurn, stands_after}
use Rattle.trigger_group.specs.Group.{came, heard_of, hears_from, later}
use Rattle.axis_homing.specs.Homing.{came_at, hears_answer, hears_news, hears_state, hears_states}
use Rattle.laws_homing.proofs.home_runs.Spelled.{same_kind, state_told}
use Rattle.laws_homing.specs.clear_boards.Firing.{AreNumbered, AreSmall, IsNumbered, IsSmall}
use Rattle.laws_homing.specs.clear_boards.Hearing.{IsAble}
use Rattle.laws_homing.proofs.clear_boards.Knowing.{behind, same_board}
use Rattle.laws_homing.proofs.clear_boards.Saying.{said_in_turn}
use Rattle.laws_homing.specs.clear_groups.Early.{AreEarly, HeardUntil, TellsBetween}
use Rattle.laws_homing.proofs.clear_boards.Ending.{fits_among, small_among}
use Rattle.plan_types.proofs.Facts.{was_equal}

-- what the news of a turn tell of triggers that can trigger counts in no turn behind this one
abbrev pub AllAbleBy : Clocks → ℕ → ℕ → List News → Type 0
AllAbleBy clocks turn most [] = Unit {0}
AllAbleBy clocks turn most (n ∷ ns) = ((when : ℕ) → IsAble clocks turn when n.answer → when ≤ most) × AllAbleBy clocks turn most ns

by_answer : (clocks : Clocks) (turn when most from until : ℕ) (told a : Cmd) → row_of told ≡ row_of a → IsText own_formats told (wire_text a) → IsSmall a → IsNumbered a → TellsBetween from until a
    → ((at w : ℕ) → from ≤ at → at < until → turn_in_run clocks (nearest (turn_tick clocks turn) (at % 2 ^ 32)) ≡ Some w → w ≤ most) → IsAble clocks turn when told → when ≤ most
by_answer clocks turn when most from until (cmd.TrsyncState oid can reason clock) (cmd.TrsyncState x y r k) e text small numbered early counts able =
    let same = state_told x y r k oid can reason clock numbered.0 numbered.1 small.0 small.1 text in
    let z = early (λ none. able.0 (same.1 ∙ none)) in
    let at : clock ≡ z.0 % 2 ^ 32 = same.3 ∙ z.3 in
    counts z.0 when z.1 z.2 (ap (λ (n : ℕ). turn_in_run clocks (nearest (turn_tick clocks turn) n)) (sym at) ∙ able.1)
by_answer clocks turn when most from until (cmd.TrsyncState oid can reason clock) a e text small numbered early counts able = absurd (let bad : row.TrsyncState ≡ row_of a = e in cc)
by_answer clocks turn when most from until told a e text small numbered early counts able = absurd able

early_among : (from until : ℕ) (c : Cmd) (cs : List Cmd) → AreEarly from until cs → IsAmong c cs → TellsBetween from until c
early_among from until c [] k among = absurd among
early_among from until c (x ∷ xs) k (inl e) = subst (TellsBetween from until) e k.0
early_among from until c (x ∷ xs) k (inr m) = early_among from until c xs k.1 m

all_news : (clocks : Clocks) (turn most : ℕ) (ns : List News) → ((n : News) (when : ℕ) → IsAmong n ns → IsAble clocks turn when n.answer → when ≤ most) → AllAbleBy clocks turn most ns
all_news clocks turn most [] f = tt
all_news clocks turn most (n ∷ ns) f = (λ when able. f n when (inl refl) able, all_news clocks turn most ns (λ x when m able. f x when (inr m) able))

module _ (b : BoardDef) (pins : List (List Level)) (place : ℕ) (entries : List Entry) (t : BoardTurn) (before : List BoardTurn) (rests : RestsOver t before) (are : AreBoardTurns (clock_of b) (first_state b pins place entries) (t ∷ before)) where
  abbrev Start : Rig
  Start = (stands_after (first_state b pins place entries) before).core.board

  abbrev Commands : List Cmd
  Commands = commands_of (queued_in (orders t.control t.batch))

  abbrev All : List Cmd
  All = (takes_all Start Commands).answers ++ says (takes_all Start Commands).rig (board_tick (clock_of b) (length before + 1))

  pub able_by : (clocks : Clocks) (most from until : ℕ) → AreSmall All → AreNumbered All → AreEarly from until All
      → ((at w : ℕ) → from ≤ at → at < until → turn_in_run clocks (nearest (turn_tick clocks (length before)) (at % 2 ^ 32)) ≡ Some w → w ≤ most) → AllAbleBy clocks (length before) most t.state.news
  able_by clocks most from until small numbered early counts =
      all_news clocks (length before) most t.state.news
      (λ n when among able. (
      let said = said_in_turn b pins place entries t before n rests are among in
      by_answer clocks (length before) when most from until n.answer said.0 (same_kind said.0 n.answer said.2) said.2 (small_among said.0 All small said.1) (fits_among said.0 All numbered said.1) (early_among from until said.0 All early said.1) counts able))

-- a report
later_most : (start most turn : ℕ) (o : Option ℕ) → turn ≤ most → heard_of start o ≤ most → heard_of start (Some (later o turn)) ≤ most
later_most start most turn None l k = l
later_most start most turn (Some t) l k = omega (arith, l, k)

one_heard : (start most : ℕ) (here can : Bool) (s : TrigState) (tick turn : ℕ) (x : Seen) → (here ≡ true → can ≡ true → turn ≤ most) → heard_of start x.heard ≤ most → heard_of start (behind here can s tick turn x).heard ≤ most
one_heard start most true true s tick turn x low k = later_most start most turn x.heard (low refl refl) k
one_heard start most true false s tick turn x low k = k
one_heard start most false can s tick turn x low k = k

all_heard : (start most b board tick turn : ℕ) (s : TrigState) (xs : List Seen) → (board ≡ b → s.can ≡ true → turn ≤ most) → HeardUntil start b most xs → HeardUntil start b most (map (hears_from board s tick turn) xs)
all_heard start most b board tick turn s [] low k = tt
all_heard start most b board tick turn s (x ∷ xs) low k =
    let here = x.member.board == board in (
      (λ is. (
          let at : x.member.board ≡ b = sym (same_board here s.can s tick turn x) ∙ is in
          one_heard start most here s.can s tick turn x (λ e f. low (sym (was_equal x.member.board board e) ∙ at) f) (k.0 at))),
      all_heard start most b board tick turn s xs low k.1,
    )

came_heard : (start most b board tick turn : ℕ) (s : TrigState) (g : GroupState) → (board ≡ b → s.can ≡ true → turn ≤ most) → HeardUntil start b most g.members → HeardUntil start b most (came board s tick turn g).members
came_heard start most b board tick turn s g low k = by (nat_lt turn g.start)
  where
    by : (c : Bool) → HeardUntil start b most (cond c g.members (map (hears_from board s tick turn) g.members))
    by true = k
    by false = all_heard start most b board tick turn s g.members low k

at_heard : (start most b board tick : ℕ) (s : TrigState) (o : Option ℕ) (g : GroupState) → ((when : ℕ) → o ≡ Some when → board ≡ b → s.can ≡ true → when ≤ most) → HeardUntil start b most g.members → HeardUntil start b most (came_at board s tick o g).members
at_heard start most b board tick s None g low k = k
at_heard start most b board tick s (Some turn) g low k = came_heard start most b board tick turn s g (low turn refl) k

not_zero : (can : ℕ) → not (can == 0) ≡ true → can ≡ 0 → ⊥
not_zero can e z = let bad : not (can == 0) ≡ false = ap (λ (n : ℕ). not (n == 0)) z in let worse : true ≡ false = sym e ∙ bad in cc

answer_heard : (start most b board turn : ℕ) (clocks : Clocks) (c : Cmd) (g : GroupState) → (board ≡ b → (when : ℕ) → IsAble clocks turn when c → when ≤ most) → HeardUntil start b most g.members → HeardUntil start b most (hears_answer clocks board turn c g).members
answer_heard start most b board turn clocks (cmd.TrsyncState oid can reason clock) g low k =
    let at = nearest (turn_tick clocks turn) clock in
    at_heard start most b board at (record { can = not (can == 0); reason = reason; clock = clock }) (turn_in_run clocks at) g (λ when is here able. low here when (not_zero can able, is)) k
answer_heard start most b board turn clocks c g low k = k

news_heard : (start most b board turn : ℕ) (clocks : Clocks) (ns : List News) (g : GroupState) → (board ≡ b → AllAbleBy clocks turn most ns) → HeardUntil start b most g.members → HeardUntil start b most (hears_news clocks board turn ns g).members
news_heard start most b board turn clocks [] g low k = k
news_heard start most b board turn clocks (n ∷ ns) g low k =
    news_heard start most b board turn clocks ns (hears_answer clocks board turn n.answer g) (λ here. (low here).1) (answer_heard start most b board turn clocks n.answer g (λ here when able. (low here).0 when able) k)

state_heard : (start most b board from : ℕ) (clocks : Clocks) (s : State) (g : GroupState) → (board ≡ b → from ≤ s.turn + 1 → AllAbleBy clocks s.turn most s.news) → HeardUntil start b most g.members → HeardUntil start b most (hears_state clocks board from s g).members
state_heard start most b board from clocks s g low k =
    let At : Bool → Type 0 = λ c. HeardUntil start b most (cond c (hears_news clocks board s.turn s.news g) g).members in
    elim (leb_tells from (s.turn + 1)) [ inl p ↦ subst At (sym p.0) (news_heard start most b board s.turn clocks s.news g (λ here. low here p.1) k) | inr p ↦ subst At (sym p.0) k ]

states_heard : (d start most b board from : ℕ) (clocks : List Clocks) (states : List State) (g : GroupState) → board + d ≡ b → ((s : State) → state_at d states ≡ s ∷ [] → from ≤ s.turn + 1 → AllAbleBy (clocks_at clocks d) s.turn most s.news)
    → HeardUntil start b most g.members → HeardUntil start b most (hears_states clocks board from states g).members
states_heard d start most b board from [] states g e low k = k
states_heard d start most b board from (c ∷ clocks) [] g e low k = k
states_heard zero start most b board from (c ∷ clocks) (s ∷ states) g e low k = over (board + 1) clocks states (hears_state c board from s g) (omega (arith, e)) (state_heard start most b board from c s g (λ here. low s refl) k)
  where
    over : (at : ℕ) (cs : List Clocks) (ss : List State) (i : GroupState) → b < at → HeardUntil start b most i.members → HeardUntil start b most (hears_states cs at from ss i).members
    over at [] ss i far l = l
    over at (c ∷ cs) [] i far l = l
    over at (c ∷ cs) (s ∷ ss) i far l = over (at + 1) cs ss (hears_state c at from s i) (omega (arith, far)) (state_heard start most b at from c s i (λ here. absurd (omega (arith, here, far))) l)
states_heard (suc d) start most b board from (c ∷ clocks) (s ∷ states) g e low k =
    states_heard d start most b (board + 1) from clocks states (hears_state c board from s g) (omega (arith, e)) (λ x is. low x is) (state_heard start most b board from c s g (λ here. absurd (omega (arith, here, e))) k)

pub hears_until : (start most b : ℕ) (clocks : List Clocks) (states : List State) (h : Homing) → ((s : State) → state_at b states ≡ s ∷ [] → h.start ≤ s.turn + 1 → AllAbleBy (clocks_at clocks b) s.turn most s.news) → HeardUntil start b most h.group.members
    → HeardUntil start b most (hears_all clocks states h).group.members
hears_until start most b clocks states h low k = states_heard b start most b 0 h.start clocks states h.group (omega arith) low k

pub until_more : (start b most more : ℕ) (xs : List Seen) → most ≤ more → HeardUntil start b most xs → HeardUntil start b more xs
until_more start b most more [] l k = tt
until_more start b most more (x ∷ xs) l k = (λ is. (let low = k.0 is in omega (arith, low, l)), until_more start b most more xs l k.1)
