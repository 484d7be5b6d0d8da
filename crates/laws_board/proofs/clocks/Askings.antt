-- What holds of a board's asking over the turns of its link: its sample is one of the board's clock.
use Rattle.std.proofs.Common.{◌≡◌, ℕ, ◌+◌, ◌-◌, ◌*◌, ◌^◌, ◌<◌, ◌≤◌, ◌⊎◌, inl, inr, Bool, true, false, cond, List, [], ◌∷◌, drop, length, Option, Some, None, refl, ap, sym, ◌∙◌, subst, arith, rules}
use Rattle.std.specs.Prelude.{◌&&◌, ◌==◌, ◌%◌, nat_le, nat_lt}
use Rattle.laws_board.proofs.Names.{eqb-true, BoardClock, board_tick, Cmd, News, State, Asking, Stage, Identify, Uptime, Configure, Config, Connected, Setup, ready, is_question_due, asks_now, waits_in, both_parts}
use Rattle.std.proofs.lemmas.Bool.{leb-true}
use Rattle.clock_line.specs.declared.sample.Sample.{Sample}
use Rattle.clock_line.specs.Samples.{took}
use Rattle.msg_code.specs.declared.cmd.Cmd.TheVariants as cmd
use Rattle.board_asking.specs.declared.asking.Put.{Put}
use Rattle.board_asking.specs.Asking.{more, new_asking, was_put, were_put, is_in_time, is_behind, tells_clock, sample_of, best_of, after_piece, after_clock, after_drift, answered, is_connected, put_turn, settled, or_asking, hears_first, listens, is_over, ready_stage, asks_clock, asked, after_asks}
use Rattle.board_asking.specs.Connecting.{sample_or_none}
use Rattle.board_asking.specs.Drift.{after_question, is_asked_now, is_unanswered}
use Rattle.laws_board.specs.turns.Turns.{BoardTurn}
use Rattle.laws_board.specs.clocks.Samples.{IsAmong, WasPut, IsClock, TellsClock, WasTold, IsSample}

abbrev PutWas : List BoardTurn → Option Put → Type 0
PutWas turns None = Unit {0}
PutWas turns (Some p) = WasPut p.number p.turn turns

abbrev BestIs : BoardClock → List BoardTurn → Option Sample → Type 0
BestIs clock turns None = Unit {0}
BestIs clock turns (Some s) = IsSample clock turns s

abbrev IsSince : ℕ → Option ℕ → Type 0
IsSince k None = Unit {0}
IsSince k (Some q) = q < k

-- the asking for the clock that is out waits, or was put in its turn or later
abbrev IsOwed : ℕ → Option ℕ → Option Put → Type 0
IsOwed owed None put = Unit {0}
IsOwed owed (Some q) None = 1 ≤ owed
IsOwed owed (Some q) (Some p) = (1 ≤ owed) ⊎ (q ≤ p.turn)

abbrev Owes : Stage → ℕ → Option ℕ → Option Put → Type 0
Owes Uptime owed since put = IsOwed owed since put
Owes Connected owed since put = IsOwed owed since put
Owes stage owed since put = Unit {0}

abbrev pub HasBest : Option Sample → Type 0
HasBest None = ⊥
HasBest (Some s) = Unit {0}

-- a board is configured once its clock was sampled
abbrev Sampled : Stage → Option Sample → Type 0
Sampled (Identify offset) best = Unit {0}
Sampled Uptime best = Unit {0}
Sampled stage best = HasBest best

pub record IsAsking (clock : BoardClock) (turns : List BoardTurn) (k : ℕ) (a : Asking) : Type 0 where
  pub put : PutWas turns a.put
  pub best : BestIs clock turns a.best
  pub since : IsSince k a.since
  pub owes : Owes a.stage a.owed a.since a.put
  pub sampled : Sampled a.stage a.best

pub new_is : (clock : BoardClock) → IsAsking clock [] 0 new_asking
new_is clock = record { put = tt; best = tt; since = tt; owes = tt; sampled = tt }

-- a turn more
put_more : (t : BoardTurn) (turns : List BoardTurn) (o : Option Put) → PutWas turns o → PutWas (t ∷ turns) o
put_more t turns None k = tt
put_more t turns (Some p) k = inr k

pub sample_more : (clock : BoardClock) (t : BoardTurn) (turns : List BoardTurn) (s : Sample) → IsSample clock turns s → IsSample clock (t ∷ turns) s
sample_more clock t turns s k =
    record { block = k.block; put = inr k.put; told = inr k.told; turn = k.turn; own = k.own; from = k.from; to = k.to; soon = k.soon }

best_more : (clock : BoardClock) (t : BoardTurn) (turns : List BoardTurn) (o : Option Sample) → BestIs clock turns o → BestIs clock (t ∷ turns) o
best_more clock t turns None k = tt
best_more clock t turns (Some s) k = sample_more clock t turns s k

pub asking_more : (clock : BoardClock) (t : BoardTurn) (turns : List BoardTurn) (k : ℕ) (a : Asking) → IsAsking clock turns k a → IsAsking clock (t ∷ turns) k a
asking_more clock t turns k a i =
    record { put = put_more t turns a.put i.put; best = best_more clock t turns a.best i.best; since = i.since; owes = i.owes; sampled = i.sampled }

later_since : (k n : ℕ) (o : Option ℕ) → k ≤ n → IsSince k o → IsSince n o
later_since k n None l s = tt
later_since k n (Some q) l s = omega arith

pub asking_later : (clock : BoardClock) (turns : List BoardTurn) (k n : ℕ) (a : Asking) → k ≤ n → IsAsking clock turns k a → IsAsking clock turns n a
asking_later clock turns k n a l i = record { put = i.put; best = i.best; since = later_since k n a.since l i.since; owes = i.owes; sampled = i.sampled }

-- the blocks that were put
owed_put : (owed : ℕ) (since : Option ℕ) (k number turn : ℕ) → IsSince k since → k ≤ turn + 1 → IsOwed owed since (Some (record { number = number; turn = turn }))
owed_put owed None k number turn s l = tt
owed_put owed (Some q) k number turn s l = inr (omega arith)

owes_put : (stage : Stage) (owed : ℕ) (since : Option ℕ) (k number turn : ℕ) → IsSince k since → k ≤ turn + 1 → Owes stage owed since (Some (record { number = number; turn = turn }))
owes_put Uptime owed since k number turn s l = owed_put owed since k number turn s l
owes_put Connected owed since k number turn s l = owed_put owed since k number turn s l
owes_put c owed since k number turn s l = tt

puts_kept : (clock : BoardClock) (turns : List BoardTurn) (k turn : ℕ) (ns : List ℕ) (a : Asking) → k ≤ turn + 1 → ((n : ℕ) → IsAmong n ns → WasPut n turn turns)
    → IsAsking clock turns k a → IsAsking clock turns k (were_put turn ns a)
puts_kept clock turns k turn [] a l w i = i
puts_kept clock turns k turn (n ∷ ns) a l w i =
    puts_kept clock turns k turn ns (was_put turn a n) l (λ m h. w m (inr h))
    (record { put = w n (inl refl); best = i.best; since = i.since; owes = owes_put a.stage (a.owed - 1) a.since k n turn i.since l; sampled = i.sampled })

-- the answers that count
abbrev Maybe : BoardClock → List BoardTurn → ℕ → Option Asking → Type 0
Maybe clock turns k None = Unit {0}
Maybe clock turns k (Some a) = IsAsking clock turns k a

if_maybe : (clock : BoardClock) (turns : List BoardTurn) (k : ℕ) (b : Bool) (a : Asking) → (b ≡ true → IsAsking clock turns k a) → Maybe clock turns k (cond b (Some a) None)
if_maybe clock turns k true a f = f refl
if_maybe clock turns k false a f = tt

owes_none : (stage : Stage) (owed : ℕ) (put : Option Put) → Owes stage owed None put
owes_none (Identify offset) owed put = tt
owes_none c owed put = tt

sampled_some : (stage : Stage) (s : Sample) → Sampled stage (Some s)
sampled_some (Identify offset) s = tt
sampled_some c s = tt

piece_sampled : (b : Bool) (offset : ℕ) (best : Option Sample) → Sampled (cond b Uptime (Identify offset)) best
piece_sampled true offset best = tt
piece_sampled false offset best = tt

best_kept : (clock : BoardClock) (turns : List BoardTurn) (o : Option Sample) (s : Sample) → BestIs clock turns o → IsSample clock turns s → IsSample clock turns (best_of o s)
best_kept clock turns o s p4 p5 = search (rules, nat_lt)

-- what is known of an answer in time: the turn, and each clock that is told in it
pub record InTime (clock : BoardClock) (turns : List BoardTurn) (turn : ℕ) (news : List News) : Type 0 where
  pub taken : (number value : ℕ) → TellsClock number value news → (block at : ℕ) × (number ≡ block + 1) × (at ≤ turn) × (value ≡ board_tick clock at) × ((put : ℕ) → WasPut block put turns → put ≤ at)
  pub told : (number value : ℕ) → TellsClock number value news → WasTold number value turn turns

sample_is : (clock : BoardClock) (turns : List BoardTurn) (turn owed number value : ℕ) (since : Option ℕ) (put : Option Put) (n : News) (news : List News) → n.number ≡ number → IsClock value n.answer
    → InTime clock turns turn (n ∷ news) → PutWas turns put → IsOwed owed since put → is_in_time turn since ≡ true → ((owed == 0) && is_behind put number) ≡ true
    → (p : Put) × (put ≡ Some p) × IsSample clock turns (record { sent = p.turn; got = turn; clock = value })
sample_is clock turns turn owed number value None put n news e f x w o in_time t = cc
sample_is clock turns turn owed number value (Some q) None n news e f x w o in_time t = let b = both_parts (owed == 0) false t in cc
sample_is clock turns turn owed number value (Some q) (Some p) n news e f x w o in_time t =
    let b = both_parts (owed == 0) (number == p.number + 1) t in
    let none : owed ≡ 0 = eqb-true owed 0 b.0 in
    let behind : number ≡ p.number + 1 = eqb-true number (p.number + 1) b.1 in
    let soon : turn - q ≤ 3 = leb-true (turn - q) 3 in_time in
    let here : TellsClock number value (n ∷ news) = inl (e, f) in
    let taken = x.taken number value here in
    let that = taken.2 in
    let same : taken.0 ≡ p.number = omega arith in
    let put : p.turn ≤ taken.1 = taken.5 p.turn (subst (λ (m : ℕ). WasPut m p.turn turns) (sym same) w) in
    let since : q ≤ p.turn = elim o [ inl out ↦ absurd (omega arith) | inr l ↦ l ] in (
      p,
      refl,
      record {
        block = p.number;
        put = w;
        told = subst (λ (m : ℕ). WasTold m value turn turns) behind (x.told number value here);
        turn = taken.1;
        own = taken.4;
        from = put;
        to = taken.3;
        soon = omega arith;
      },
    )

after_clock_is : (clock : BoardClock) (turns : List BoardTurn) (k : ℕ) (a : Asking) (s : Sample) → IsAsking clock turns k a → IsSample clock turns s → IsAsking clock turns k (after_clock a s)
after_clock_is clock turns k a s i j =
    let stage = cond (nat_le 8 (more a.samples)) (Configure 0) Uptime in
    record { put = i.put; best = best_kept clock turns a.best s i.best j; since = tt; owes = owes_none stage a.owed a.put; sampled = sampled_some stage (best_of a.best s) }

after_drift_is : (clock : BoardClock) (turns : List BoardTurn) (k : ℕ) (a : Asking) (s : Sample) → IsAsking clock turns k a → IsSample clock turns s → IsAsking clock turns k (after_drift a s)
after_drift_is clock turns k a s i j = record { put = i.put; best = j; since = tt; owes = tt; sampled = tt }

clock_maybe : (clock : BoardClock) (turns : List BoardTurn) (k turn high low : ℕ) (a : Asking) (n : News) (news : List News) → n.answer ≡ cmd.Uptime high low → InTime clock turns turn (n ∷ news)
    → IsAsking clock turns k a → IsOwed a.owed a.since a.put → is_in_time turn a.since ≡ true → tells_clock a n.number ≡ true → IsSample clock turns (sample_of a turn high low)
clock_maybe clock turns k turn high low a n news e x i o in_time t =
    let value = high * 2 ^ 32 + low in
    let f : IsClock value n.answer = subst (λ (c : Cmd). IsClock value c) (sym e) refl in
    let s = sample_is clock turns turn a.owed n.number value a.since a.put n news refl f x i.put o in_time t in
    subst (λ (p : Option Put). IsSample clock turns (record { sent = put_turn p; got = turn; clock = value })) (sym s.1) s.2

answers : (clock : BoardClock) (turns : List BoardTurn) (k turn : ℕ) (a : Asking) (stage : Stage) (n : News) (c : Cmd) (news : List News) → a.stage ≡ stage → n.answer ≡ c
    → InTime clock turns turn (n ∷ news) → IsAsking clock turns k a → is_in_time turn a.since ≡ true → Maybe clock turns k (answered turn a stage n.number c)
answers clock turns k turn a (Identify offset) n (cmd.IdentifyResponse of bytes) news s e x i in_time =
    let size = length bytes.items in
    let next = (offset + 40) % 2 ^ 32 in
    if_maybe clock turns k (offset == of) (after_piece a offset size)
    (λ same. record { put = i.put; best = i.best; since = tt; owes = owes_none (cond (nat_lt size 40) Uptime (Identify next)) a.owed a.put; sampled = piece_sampled (nat_lt size 40) next a.best })
answers clock turns k turn a Uptime n (cmd.Uptime high low) news s e x i in_time =
    let o : IsOwed a.owed a.since a.put = subst (λ (g : Stage). Owes g a.owed a.since a.put) s i.owes in
    if_maybe clock turns k (tells_clock a n.number) (after_clock a (sample_of a turn high low))
    (λ t. after_clock_is clock turns k a (sample_of a turn high low) i (clock_maybe clock turns k turn high low a n news e x i o in_time t))
answers clock turns k turn a Config n (cmd.Config is_config crc is_shutdown move_count) news s e x i in_time =
    let b : HasBest a.best = subst (λ (g : Stage). Sampled g a.best) s i.sampled in
    if_maybe clock turns k (is_config == 1) (settled a Connected) (λ same. record { put = i.put; best = i.best; since = tt; owes = tt; sampled = b })
answers clock turns k turn a Connected n (cmd.Uptime high low) news s e x i in_time =
    let o : IsOwed a.owed a.since a.put = subst (λ (g : Stage). Owes g a.owed a.since a.put) s i.owes in
    if_maybe clock turns k (tells_clock a n.number) (after_drift a (sample_of a turn high low))
    (λ t. after_drift_is clock turns k a (sample_of a turn high low) i (clock_maybe clock turns k turn high low a n news e x i o in_time t))
answers clock turns k turn a stage n c news s e x i in_time = tt

or_kept : (clock : BoardClock) (turns : List BoardTurn) (k : ℕ) (o : Option Asking) (b : Asking) → Maybe clock turns k o → IsAsking clock turns k b → IsAsking clock turns k (or_asking o b)
or_kept clock turns k None b m i = i
or_kept clock turns k (Some a) b m i = m

in_rest : (clock : BoardClock) (turns : List BoardTurn) (turn : ℕ) (n : News) (news : List News) → InTime clock turns turn (n ∷ news) → InTime clock turns turn news
in_rest clock turns turn n news x = record { taken = λ number value t. x.taken number value (inr t); told = λ number value t. x.told number value (inr t) }

hears_kept : (clock : BoardClock) (turns : List BoardTurn) (k turn : ℕ) (news : List News) (a : Asking) → InTime clock turns turn news → IsAsking clock turns k a → is_in_time turn a.since ≡ true
    → IsAsking clock turns k (hears_first turn news a)
hears_kept clock turns k turn [] a x i in_time = i
hears_kept clock turns k turn (n ∷ news) a x i in_time =
    or_kept clock turns k (answered turn a a.stage n.number n.answer) (hears_first turn news a)
    (answers clock turns k turn a a.stage n n.answer news refl refl x i in_time)
    (hears_kept clock turns k turn news a (in_rest clock turns turn n news x) i in_time)

where_in_time : (clock : BoardClock) (turns : List BoardTurn) (k turn : ℕ) (news : List News) (b : Bool) (a : Asking) → is_in_time turn a.since ≡ b → InTime clock turns turn news → IsAsking clock turns k a
    → IsAsking clock turns k (cond b (hears_first turn news a) a)
where_in_time clock turns k turn news true a e x i = hears_kept clock turns k turn news a x i e
where_in_time clock turns k turn news false a e x i = i

-- a state is heard
pub listens_kept : (clock : BoardClock) (turns : List BoardTurn) (k : ℕ) (a : Asking) (s : State) → k ≤ s.turn + 1 → ((n : ℕ) → IsAmong n s.asked → WasPut n s.turn turns)
    → InTime clock turns s.turn s.news → IsAsking clock turns k a → IsAsking clock turns k (listens a s)
listens_kept clock turns k a s l w x i =
    let b = were_put s.turn s.asked a in
    where_in_time clock turns k s.turn s.news (is_in_time s.turn b.since) b refl x (puts_kept clock turns k s.turn s.asked a l w i)

-- the board is asked
ready_kept_if : (b : Bool) (n owed : ℕ) (since : Option ℕ) (put : Option Put) (best : Option Sample) → HasBest best → Owes (cond b Config (Configure n)) owed since put × Sampled (cond b Config (Configure n)) best
ready_kept_if true n owed since put best h = (tt, h)
ready_kept_if false n owed since put best h = (tt, h)

ready_stays : (setups : List Setup) (stage : Stage) (owed : ℕ) (since : Option ℕ) (put : Option Put) (best : Option Sample) → Owes stage owed since put → Sampled stage best
    → Owes (ready_stage setups stage) owed since put × Sampled (ready_stage setups stage) best
ready_stays setups (Configure n) owed since put best o s = ready_kept_if (is_over (drop n setups)) n owed since put best s
ready_stays setups c owed since put best o s = (o, s)

pub ready_kept : (clock : BoardClock) (turns : List BoardTurn) (k : ℕ) (setups : List Setup) (a : Asking) → IsAsking clock turns k a → IsAsking clock turns k (ready setups a)
ready_kept clock turns k setups a i =
    let b = ready_stays setups a.stage a.owed a.since a.put a.best i.owes i.sampled in
    record { put = i.put; best = i.best; since = i.since; owes = b.0; sampled = b.1 }

owed_now : (owed k : ℕ) (put : Option Put) → 1 ≤ owed → IsOwed owed (Some k) put
owed_now owed k None l = l
owed_now owed k (Some p) l = inl l

owes_now : (stage : Stage) (owed k : ℕ) (put : Option Put) → is_connected stage ≡ false → Owes stage (cond (asks_clock stage) (more owed) owed) (Some k) put
owes_now Uptime owed k put e = owed_now (more owed) k put (omega arith)
owes_now Connected owed k put e = cc
owes_now c owed k put e = tt

asked_kept : (clock : BoardClock) (turns : List BoardTurn) (k : ℕ) (a : Asking) (stage : Stage) → a.stage ≡ stage → is_connected stage ≡ false → IsAsking clock turns k a → IsAsking clock turns (k + 1) (asked k a)
asked_kept clock turns k a stage e n i =
    record { put = i.put; best = i.best; since = omega arith; owes = owes_now a.stage a.owed k a.put (ap is_connected e ∙ n); sampled = i.sampled }

next_turn : (clock : BoardClock) (turns : List BoardTurn) (k : ℕ) (a : Asking) → IsAsking clock turns k a → IsAsking clock turns (k + 1) a
next_turn clock turns k a i = asking_later clock turns k (k + 1) a (omega arith) i

either_asking : (clock : BoardClock) (turns : List BoardTurn) (k : ℕ) (b : Bool) (x y : Asking) → IsAsking clock turns k x → IsAsking clock turns k y → IsAsking clock turns k (cond b x y)
either_asking clock turns k true x y i j = i
either_asking clock turns k false x y i j = j

pub asks_kept : (clock : BoardClock) (turns : List BoardTurn) (k : ℕ) (setups : List Setup) (a : Asking) (stage : Stage) → a.stage ≡ stage → IsAsking clock turns k a
    → IsAsking clock turns (k + 1) (after_asks setups k a stage)
asks_kept clock turns k setups a stage p6 p7 = search (rules, later_since, next_turn, either_asking, is_question_due, asked_kept)

pub waits_kept : (clock : BoardClock) (turns : List BoardTurn) (k n : ℕ) (drifting : Bool) (a : Asking) → IsAsking clock turns k a → IsAsking clock turns k (waits_in drifting n a)
waits_kept clock turns k n drifting a i = search (rules, either_asking)

owes_more : (stage : Stage) (owed k : ℕ) (put : Option Put) → Owes stage (more owed) (Some k) put
owes_more Uptime owed k put = owed_now (more owed) k put (omega arith)
owes_more Connected owed k put = owed_now (more owed) k put (omega arith)
owes_more c owed k put = tt

pub question_kept : (clock : BoardClock) (turns : List BoardTurn) (k : ℕ) (commands : List Cmd) (a : Asking) → IsAsking clock turns k a → IsAsking clock turns (k + 1) (after_question k commands a)
question_kept clock turns k commands a i = search (rules, either_asking, asks_now, owes_more, next_turn)

-- a board that is connected has a sample
best_sample : (clock : BoardClock) (turns : List BoardTurn) (best : Option Sample) → HasBest best → BestIs clock turns best → IsSample clock turns (sample_or_none best)
best_sample clock turns None h k = absurd h
best_sample clock turns (Some s) h k = k

sampled_best : (stage : Stage) (best : Option Sample) → is_connected stage ≡ true → Sampled stage best → HasBest best
sampled_best (Identify offset) best c s = cc
sampled_best Uptime best c s = cc
sampled_best m best c s = s

pub connected_sample : (clock : BoardClock) (turns : List BoardTurn) (k : ℕ) (a : Asking) → is_connected a.stage ≡ true → IsAsking clock turns k a → IsSample clock turns (sample_or_none a.best)
connected_sample clock turns k a c i = best_sample clock turns a.best (sampled_best a.stage a.best c i.sampled) i.best
