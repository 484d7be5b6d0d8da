-- A clock that goes on without a drift behind a turn.
use Rattle.std.proofs.Common.{◌≡◌, ◌⊎◌, inl, inr, ℕ, ℤ, ◌+◌, ◌-◌, ◌*◌, ◌/◌, ◌<◌, ◌≤◌, List, [], ◌∷◌, pos, refl, ap, sym, ◌∙◌, subst, arith}
use Rattle.laws_board.proofs.Names.{leb_tells, BoardClock, BoardDef, Held, Line, board_tick, clock_of, tick, turn_ns, Clocks, lines_tick, AreKept}
use Rattle.std.specs.Prelude.{max, min}
use Rattle.plan_types.specs.Lines.{AreHeld, last_from, tick_over}
use Rattle.plan_types.specs.Machines.{IsValidBoard, IsValidFreq}
use Rattle.plan_types.proofs.OwnTicks.{rise}
use Rattle.clock_line.specs.Samples.{ppm_size}
use Rattle.clock_line.proofs.Turns.{tick-turn, last_from-above}
use Rattle.laws_board.specs.turns.Turns.{BoardTurn}
use Rattle.laws_board.specs.clocks.Near.{KeepsUp}
use Rattle.laws_board.specs.clocks.Samples.{IsSampled}
use Rattle.laws_board.proofs.clocks.Near.{keeps_up, keeps_up_always}
use Rattle.laws_board.specs.sections.Events.{AreOwn}
use Rattle.laws_board.specs.sections.Parts.{AreTracked}
use Rattle.laws_board.proofs.sections.Linking.{own_ticks}
use Rattle.laws_board.specs.orders.Renewed.{AreSampled, ComeInTime, NoneBefore, go_on, line_age}
use Rattle.laws_board.proofs.orders.Followed.{lines_in_time, not_old}

-- its ticks up to that turn, and behind it
goes_before : (clock : BoardClock) (n k : ℕ) → k ≤ n → go_on clock n k ≡ board_tick clock k
goes_before clock n k low =
    let here : min k n ≡ k = omega (arith, low) in
    let none : k - n ≡ 0 = omega (arith, low) in
    rw (here, none) (omega arith)

goes_behind : (clock : BoardClock) (n k : ℕ) → n ≤ k → go_on clock n k ≡ board_tick clock n + (k - n) * (clock.freq / 1_000)
goes_behind clock n k high = let here : min k n ≡ n = omega (arith, high) in rw here refl

-- a turn of it
goes_next : (b : BoardDef) (n k : ℕ) → IsValidBoard b → (go_on (clock_of b) n k ≤ go_on (clock_of b) n (k + 1)) × (go_on (clock_of b) n (k + 1) ≤ go_on (clock_of b) n k + 200_041)
goes_next b n k v =
    let clock = clock_of b in
    let q = b.freq / 1_000 in
    let own = own_ticks b n v in
    elim (leb_tells (k + 1) n) [
      | inl p ↦
          let low = p.1 in
          let here = goes_before clock n k (omega (arith, low)) in
          let next = goes_before clock n (k + 1) low in
          (omega (arith, here, next, own.ticks.up k), omega (arith, here, next, own.few k))
      | inr p ↦
          let high = p.1 in
          let here = goes_behind clock n k (omega (arith, high)) in
          let next = goes_behind clock n (k + 1) (omega (arith, high)) in
          let left : k + 1 - n ≡ k - n + 1 = omega (arith, high) in
          let same = ap (λ j. j * q) left in
          let more : (k - n + 1) * q ≡ (k - n) * q + q = grind arith in
          let most = v.freq.high in
          (omega (arith, here, next, same, more), omega (arith, here, next, same, more, most))
    ]

pub own_on : (b : BoardDef) (turns n : ℕ) → IsValidBoard b → turns ≤ n → AreOwn b turns (go_on (clock_of b) n)
own_on b turns n v h = record {
  ticks = record { up = λ k. (goes_next b n k v).0; most = λ k. (let few = (goes_next b n k v).1 in omega (arith, few)) };
  few = λ k. (goes_next b n k v).1;
  same = λ k low. goes_before (clock_of b) n k (omega (arith, low, h));
}

-- a line has so many ticks a turn
line_rises : (line : Line) (sent q a j : ℕ) → line.at ≡ sent * 1_000_000 → line.freq ≡ q * 1_000 → sent ≤ a → tick line ((a + j) * turn_ns) ≡ tick line (a * turn_ns) + j * q
line_rises line sent q a j at freq low =
    let one = tick-turn line sent q a at freq in
    let two = tick-turn line sent q (a + j) at freq in
    let left : a + j - sent ≡ a - sent + j = omega (arith, low) in
    let same = ap (λ x. x * q) left in
    let more : (a - sent + j) * q ≡ (a - sent) * q + j * q = grind arith in
    omega (arith, one, two, same, more)

-- the last of some lines
abbrev last_line : Line → List Held → Line
last_line line [] = line
last_line line (h ∷ held) = last_line h.line held

last_sampled : (clock : BoardClock) (turns : List BoardTurn) (line : Line) (held : List Held) → IsSampled clock turns line → AreSampled clock turns held → IsSampled clock turns (last_line line held)
last_sampled clock turns line [] x all = x
last_sampled clock turns line (h ∷ held) x all = last_sampled clock turns h.line held all.0 all.1

last_begun : (first line : Line) (from keep time : ℕ) (held : List Held) → AreHeld first line from keep held → line.at ≤ time → last_from from held ≤ time → (last_line line held).at ≤ time
last_begun first line from keep time [] a at low = at
last_begun first line from keep time (h ∷ held) a at low =
    let before = a.5.before in
    last_begun first h.line h.from h.most time held a.4 (omega (arith, before, low, last_from-above first h.line h.from h.most held a.4)) low

-- it is not too old, where all of them hold by then
last_young : (drift : ℤ) (first line : Line) (from keep time until : ℕ) (held : List Held) → AreHeld first line from keep held → last_from from held ≤ time → time < (until + 1) * turn_ns → ComeInTime drift line held until
    → until * turn_ns ≤ (last_line line held).at + line_age drift * turn_ns
last_young drift first line from keep time until [] a low soon c = c
last_young drift first line from keep time until (h ∷ held) a low soon (inl c) = absurd (let late = c.1 in omega (arith, late, low, soon, last_from-above first h.line h.from h.most held a.4))
last_young drift first line from keep time until (h ∷ held) a low soon (inr c) = last_young drift first h.line h.from h.most time until held a.4 low soon c.1

-- the lines have its ticks at least, and no more than those, or those of the turn by which all of them hold
ticks_least : (first line : Line) (from keep most time : ℕ) (held : List Held) → AreHeld first line from keep held → last_from from held ≤ time → tick (last_line line held) time ≤ tick_over line most held time
ticks_least first line from keep most time [] a low = omega arith
ticks_least first line from keep most time (h ∷ held) a low =
    let more = ticks_least first h.line h.from h.most (max most (tick line h.from)) time held a.4 low in
    let up = last_from-above first h.line h.from h.most held a.4 in
    elim (leb_tells h.from time) [ inl p ↦ rw p.0 more | inr p ↦ absurd (let late = p.1 in omega (arith, late, up, low)) ]

ticks_most : (first line : Line) (from keep most early time : ℕ) (held : List Held) → AreHeld first line from keep held → last_from from held ≤ early → early ≤ time
    → tick_over line most held time ≤ max (tick_over line most held early) (tick (last_line line held) time)
ticks_most first line from keep most early time [] a low order = omega arith
ticks_most first line from keep most early time (h ∷ held) a low order =
    let more = ticks_most first h.line h.from h.most (max most (tick line h.from)) early time held a.4 low order in
    let up = last_from-above first h.line h.from h.most held a.4 in
    elim (leb_tells h.from early) [
      | inl p ↦ elim (leb_tells h.from time) [ inl q ↦ rw (p.0, q.0) more | inr q ↦ absurd (let late = q.1 in omega (arith, late, up, low, order)) ]
      | inr p ↦ absurd (let late = p.1 in omega (arith, late, up, low))
    ]

-- a line of a sample keeps up with its board as long as it is not too old
abbrev IsYoung : BoardClock → Line → ℕ → Type 0
IsYoung clock line until = (clock.drift ≡ pos 0) ⊎ ((ppm_size clock.drift ≤ 200) × (until * turn_ns ≤ line.at + line_age clock.drift * turn_ns))

young_keeps : (clock : BoardClock) (turns : List BoardTurn) (line : Line) (k until : ℕ) → IsValidFreq clock.freq → IsSampled clock turns line → line.at ≤ k * turn_ns → k ≤ until → IsYoung clock line until → KeepsUp clock line k
young_keeps clock turns line k until v x begun low (inl exact) =
    let s = x.0 in
    let at = ap (λ (l : Line). l.at) x.2 in
    subst (λ (l : Line). KeepsUp clock l k) (sym x.2) (keeps_up_always clock turns s k v exact x.1 (omega (arith, at, begun)))
young_keeps clock turns line k until v x begun low (inr young) =
    let s = x.0 in
    let at = ap (λ (l : Line). l.at) x.2 in
    let new = young.1 in
    subst (λ (l : Line). KeepsUp clock l k) (sym x.2) (keeps_up clock turns s k v young.0 x.1 (omega (arith, at, begun)) (not_old clock.drift (k - s.sent) (omega (arith, at, new, low))))

-- what is known of the last line of a board four turns before a turn and as that turn begins
record IsLast (clock : BoardClock) (line : Line) (n : ℕ) : Type 0 where
  sent : ℕ
  q : ℕ
  at : line.at ≡ sent * 1_000_000
  freq : line.freq ≡ q * 1_000
  per_turn : clock.freq / 1_000 ≡ q
  early : sent + 4 ≤ n
  behind : board_tick clock n ≤ tick line ((n + 1) * turn_ns)
  ahead : tick line ((n - 4) * turn_ns) < board_tick clock n

is_last : (clock : BoardClock) (turns : List BoardTurn) (line : Line) (last n until : ℕ) → IsValidFreq clock.freq → IsSampled clock turns line → line.at ≤ last * turn_ns → last + 4 ≤ n → n ≤ until → IsYoung clock line until
    → IsLast clock line n
is_last clock turns line last n until v x begun late low young =
    let s = x.0 in
    let at = ap (λ (l : Line). l.at) x.2 in
    let freq = ap (λ (l : Line). l.freq) x.2 in
    let whole = v.whole in
    let back : n - 4 + 4 ≡ n = omega (arith, late) in
    let now = young_keeps clock turns line n until v x (omega (arith, begun, late)) low young in
    let before = young_keeps clock turns line (n - 4) until v x (omega (arith, begun, late)) (omega (arith, low)) young in
    record {
      sent = s.sent;
      q = clock.freq / 1_000;
      at = at;
      freq = omega (arith, freq, whole);
      per_turn = refl;
      early = omega (arith, at, begun, late);
      behind = now.behind;
      ahead = subst (λ j. tick line ((n - 4) * turn_ns) < board_tick clock j) back before.ahead;
    }

-- behind that turn the last line is at most a turn behind the clock that goes on, and less than four turns ahead
last_behind : (clock : BoardClock) (line : Line) (n k : ℕ) → IsLast clock line n → n ≤ k → go_on clock n k ≤ tick line ((k + 1) * turn_ns)
last_behind clock line n k i high =
    let q = clock.freq / 1_000 in
    let freq : line.freq ≡ q * 1_000 = i.freq ∙ ap (λ x. x * 1_000) (sym i.per_turn) in
    let early = i.early in
    let rises = line_rises line i.sent q (n + 1) (k - n) i.at freq (omega (arith, early)) in
    let place : n + 1 + (k - n) ≡ k + 1 = omega (arith, high) in
    let same = ap (λ j. tick line (j * turn_ns)) place in
    let behind = i.behind in
    omega (arith, goes_behind clock n k high, rises, same, behind)

last_ahead : (clock : BoardClock) (line : Line) (n k : ℕ) → IsLast clock line n → n ≤ k + 4 → tick line (k * turn_ns) < go_on clock n (k + 4)
last_ahead clock line n k i high =
    let q = clock.freq / 1_000 in
    let freq : line.freq ≡ q * 1_000 = i.freq ∙ ap (λ x. x * 1_000) (sym i.per_turn) in
    let early = i.early in
    let rises = line_rises line i.sent q (n - 4) (k + 4 - n) i.at freq (omega (arith, early)) in
    let place : n - 4 + (k + 4 - n) ≡ k = omega (arith, high, early) in
    let same = ap (λ j. tick line (j * turn_ns)) place in
    let ahead = i.ahead in
    omega (arith, goes_behind clock n (k + 4) high, rises, same, ahead)

pub goes_tracked : (clock : BoardClock) (turns : List BoardTurn) (clocks : Clocks) (ready last n until any : ℕ) → IsValidFreq clock.freq → AreKept clocks → IsSampled clock turns clocks.first → AreSampled clock turns clocks.held
    → clocks.first.at ≤ ready * turn_ns → NoneBefore ready clocks.held → (clock.drift ≡ pos 0) ⊎ ((ppm_size clock.drift ≤ 200) × ComeInTime clock.drift clocks.first clocks.held until)
    → last_from 0 clocks.held ≤ last * turn_ns → ready ≤ last → last + 4 ≤ n → n ≤ until → (x : AreTracked (go_on clock n) clocks ready) × (x.until ≡ any)
goes_tracked clock turns clocks ready last n until any v kept x all begun none new over order late low =
    let first = clocks.first in
    let held = clocks.held in
    let line = last_line first held in
    let t = lines_in_time clock turns clocks ready until v kept x all begun none new in
    let until_is = t.1 in
    let at = last_begun first first 0 0 (last * turn_ns) held kept.held (omega (arith, begun, order)) over in
    let i = is_last clock turns line last n until v (last_sampled clock turns first held x all) at late low (by_drift new) in
    let front = t.0.ahead last order (omega (arith, until_is, late, low)) in (
      record {
        until = any;
        kept = kept;
        behind = λ k from to.
            elim (leb_tells k n) [
              | inl p ↦ let own = t.0.behind k from (let near = p.1 in omega (arith, near, until_is, low)) in omega (arith, own, goes_before clock n k p.1)
              | inr p ↦
                  let far = p.1 in
                  let own = last_behind clock line n k i (omega (arith, far)) in
                  let least = ticks_least first first 0 0 0 ((k + 1) * turn_ns) held kept.held (omega (arith, over, late, far)) in
                  omega (arith, own, least)
            ];
        ahead = λ k from to.
            elim (leb_tells (k + 4) n) [
              | inl p ↦ let own = t.0.ahead k from (let near = p.1 in omega (arith, near, until_is, low)) in omega (arith, own, goes_before clock n (k + 4) p.1)
              | inr p ↦
                  let far = p.1 in
                  let own = last_ahead clock line n k i (omega (arith, far)) in
                  let most = ticks_most first first 0 0 0 (last * turn_ns) (k * turn_ns) held kept.held over (omega (arith, late, far)) in
                  let grows = rise clock.start clock.freq (last + 4) n clock.drift late in
                  let up = goes_behind clock n (k + 4) (omega (arith, far)) in
                  omega (arith, own, most, front, grows, up)
            ];
      },
      refl,
    )
  where
    by_drift : (clock.drift ≡ pos 0) ⊎ ((ppm_size clock.drift ≤ 200) × ComeInTime clock.drift clocks.first clocks.held until) → IsYoung clock (last_line clocks.first clocks.held) until
    by_drift (inl exact) = inl exact
    by_drift (inr (d, come)) = inr (d, last_young clock.drift clocks.first clocks.first 0 0 (last * turn_ns) until clocks.held kept.held over (omega (arith, late, low)) come)
