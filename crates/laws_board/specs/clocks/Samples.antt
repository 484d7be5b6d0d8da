-- What a board tells of its clock in the turns of a run, and the samples that the reactor takes of it.
use Rattle.std.specs.Prelude.{◌≡◌, ℕ, zero, suc, ◌+◌, ◌*◌, ◌^◌, ◌≤◌, ◌==◌, ◌⊎◌, List, [], ◌∷◌, ◌++◌, length, if◌then◌else◌}
use Rattle.plan_types.specs.declared.clock.BoardClock.{BoardClock}
use Rattle.plan_types.specs.declared.plan.Line.{Line}
use Rattle.plan_types.specs.Clock.{board_tick}
use Rattle.plan_types.specs.Lines.{Clocks}
use Rattle.clock_line.specs.declared.sample.Sample.{Sample}
use Rattle.clock_line.specs.Samples.{sampled}
use Rattle.msg_code.specs.declared.cmd.Cmd.{Cmd}
use Rattle.msg_code.specs.declared.cmd.Cmd.TheVariants as cmd
use Rattle.msg_code.specs.declared.talk.News.{News}
use Rattle.msg_code.specs.declared.talk.WordNews.{WordNews}
use Rattle.msg_code.specs.declared.talk.WordNews.TheVariants as word
use Rattle.laws_board.specs.turns.Turns.{BoardTurn}

-- a number is one of some numbers
abbrev pub IsAmong : ℕ → List ℕ → Type 0
IsAmong n [] = ⊥
IsAmong n (m ∷ ms) = (m ≡ n) ⊎ IsAmong n ms

-- in a turn a block with this number was first put on the line, and it ends with a get_uptime
abbrev pub WasPut : ℕ → ℕ → List BoardTurn → Type 0
WasPut block turn [] = ⊥
WasPut block turn (t ∷ before) = ((turn ≡ length before) × IsAmong block t.state.asked) ⊎ WasPut block turn before

-- an answer tells this clock
abbrev pub IsClock : ℕ → Cmd → Type 0
IsClock clock (cmd.Uptime high low) = clock ≡ high * 2 ^ 32 + low
IsClock clock answer = ⊥

-- one of some news tells a clock, in a reply with this number
abbrev pub TellsClock : ℕ → ℕ → List News → Type 0
TellsClock number clock [] = ⊥
TellsClock number clock (n ∷ news) = ((n.number ≡ number) × IsClock clock n.answer) ⊎ TellsClock number clock news

-- in a turn a clock came to the host, in a reply with this number
abbrev pub WasTold : ℕ → ℕ → ℕ → List BoardTurn → Type 0
WasTold number clock turn [] = ⊥
WasTold number clock turn (t ∷ before) =
    ((turn ≡ length before) × TellsClock number clock t.state.news) ⊎ WasTold number clock turn before

-- A sample of a board's clock: it was sent in the turn in which the block with the asking was first put on
-- the line, it was got in the turn in which the answer to this block came, at most three turns later, and the
-- clock is the board's own tick of a turn between the two.
pub record IsSample (clock : BoardClock) (turns : List BoardTurn) (s : Sample) : Type 0 where
  -- the number of the block
  pub block : ℕ
  pub put : WasPut block s.sent turns
  pub told : WasTold (block + 1) s.clock s.got turns
  -- the turn in which the board took the block
  pub turn : ℕ
  pub own : s.clock ≡ board_tick clock turn
  pub from : s.sent ≤ turn
  pub to : turn ≤ s.got
  pub soon : s.got ≤ s.sent + 3

-- a clock line of a board is that of a sample of its clock
abbrev pub IsSampled : BoardClock → List BoardTurn → Line → Type 0
IsSampled clock turns line = (s : Sample) × IsSample clock turns s × (line ≡ sampled s clock.freq)

-- the line of a board among those of all boards, where there is one
abbrev pub line_at : ℕ → List Line → List Line
line_at b [] = []
line_at zero (l ∷ lines) = l ∷ []
line_at (suc b) (l ∷ lines) = line_at b lines

-- the clock lines of a board that a news of a word tells
abbrev pub line_of : ℕ → WordNews → List Line
line_of b (word.Lines lines) = line_at b lines
line_of b (word.Line board line) = if board == b then line ∷ [] else []
line_of b news = []

-- the clock lines of a board that a word tells
abbrev pub lines_told : ℕ → List WordNews → List Line
lines_told b [] = []
lines_told b (n ∷ news) = line_of b n ++ lines_told b news

-- the first clock line of a board, where there is one
abbrev pub first_line : ℕ → List Clocks → List Line
first_line b [] = []
first_line zero (c ∷ clocks) = c.first ∷ []
first_line (suc b) (c ∷ clocks) = first_line b clocks

-- the further clock lines of a board that a word tells, behind the first one
abbrev pub further_lines : ℕ → List WordNews → List Line
further_lines b [] = []
further_lines b (word.Line board line ∷ news) = (if board == b then line ∷ [] else []) ++ further_lines b news
further_lines b (n ∷ news) = further_lines b news

-- a clock line of a board is that of a sample of its clock, which was got in the latest of these turns
abbrev pub IsFresh : BoardClock → List BoardTurn → Line → Type 0
IsFresh clock turns line =
    (s : Sample) × IsSample clock turns s × (line ≡ sampled s clock.freq) × (s.got + 1 ≡ length turns)

-- a clock line of a board is that of a sample of its clock, which was got in the turn in which it was sent
abbrev pub IsSampledAtOnce : BoardClock → List BoardTurn → Line → Type 0
IsSampledAtOnce clock turns line =
    (s : Sample) × IsSample clock turns s × (line ≡ sampled s clock.freq) × (s.got ≡ s.sent)
