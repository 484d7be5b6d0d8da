-- Clock lines follow their board.
use Rattle.std.proofs.Common.{◌≡◌, ◌⊎◌, inl, inr, ℕ, ℤ, ◌+◌, ◌-◌, ◌*◌, ◌/◌, ◌^◌, ◌<◌, ◌≤◌, List, [], ◌∷◌, ◌++◌, length, pos, refl, ap, sym, ◌∙◌, subst, arith}
use Rattle.std.proofs.Math.Nat.{div-mul-le_self, mul-le-mul_right}
use Rattle.laws_board.proofs.Names.{leb_tells, BoardClock, Held, Line, board_tick, tick, turn_ns, Clocks, one_line, AreKept}
use Rattle.std.specs.Prelude.{max}
use Rattle.plan_types.specs.Lines.{AreHeld, tick_over}
use Rattle.plan_types.specs.Machines.{IsValidFreq}
use Rattle.plan_types.specs.Valid.{IsValidLine}
use Rattle.clock_line.specs.declared.sample.Sample.{Sample}
use Rattle.clock_line.specs.Samples.{ppm_size, sampled}
use Rattle.laws_board.specs.turns.Turns.{BoardTurn}
use Rattle.laws_board.specs.clocks.Near.{AllKeepUp, KeepsUp, turn_from}
use Rattle.laws_board.specs.clocks.Samples.{IsSample, IsSampled}
use Rattle.laws_board.proofs.clocks.Clear.{told_before}
use Rattle.laws_board.proofs.clocks.Held.{lines_keep}
use Rattle.laws_board.proofs.clocks.Near.{keeps_up, keeps_up_always}
use Rattle.laws_board.specs.sections.Parts.{AreTracked}
use Rattle.laws_board.specs.orders.Renewed.{AreSampled, ComeInTime, NoneBefore, line_age}

pub lines_tracked : (clock : BoardClock) (clocks : Clocks) (ready until : ℕ) → AreKept clocks → AllKeepUp clock ready clocks.first clocks.held until
    → (x : AreTracked (λ k. board_tick clock k) clocks ready) × (x.until ≡ until)
lines_tracked clock clocks ready until kept all =
    (record { until = until; kept = kept; behind = λ k low high. (lines_keep clock clocks ready until k kept all low high).behind; ahead = λ k low high. (lines_keep clock clocks ready until k kept all low high).ahead }, refl)

-- a line of a sample is valid
valid_line : (clock : BoardClock) (turns : List BoardTurn) (s : Sample) → IsValidFreq clock.freq → length turns ≤ 2 ^ 63 → IsSample clock turns s → IsValidLine (sampled s clock.freq)
valid_line clock turns s v few i =
    let low = v.low in
    let high = v.high in
    let whole = v.whole in
    let from = i.from in
    let to = i.to in
    let got = told_before (i.block + 1) s.clock s.got turns i.told in
    record { freq_low = low; freq_high = high; freq_whole = whole; whole_turn = omega arith; few_turns = omega arith }

line_kept : (clock : BoardClock) (turns : List BoardTurn) (s : Sample) → IsValidFreq clock.freq → length turns ≤ 2 ^ 63 → IsSample clock turns s → AreKept (one_line (sampled s clock.freq))
line_kept clock turns s v few i = record { valid = valid_line clock turns s v few i; held = tt }

pub exact_tracked : (clock : BoardClock) (turns : List BoardTurn) (line : Line) (until : ℕ) → IsValidFreq clock.freq → clock.drift ≡ pos 0 → length turns ≤ 2 ^ 63 → IsSampled clock turns line
    → (x : AreTracked (λ k. board_tick clock k) (one_line line) (length turns)) × (x.until ≡ until)
exact_tracked clock turns line until v d few x =
    let s = x.0 in
    let i = x.1 in
    let from = i.from in
    let to = i.to in
    let got = told_before (i.block + 1) s.clock s.got turns i.told in
    subst (λ (l : Line). (y : AreTracked (λ k. board_tick clock k) (one_line l) (length turns)) × (y.until ≡ until)) (sym x.2)
    (lines_tracked clock (one_line (sampled s clock.freq)) (length turns) until (line_kept clock turns s v few i)
    (λ k low high. keeps_up_always clock turns s k v d i (omega arith)))

-- a line that is not older than it may be has drifted no further
pub not_old : (drift : ℤ) (n : ℕ) → n ≤ line_age drift → n * ppm_size drift ≤ 980_000
not_old drift n le =
    let p = ppm_size drift in
    let own : n * p ≤ 980_000 / p * p = mul-le-mul_right p le in
    let whole : 980_000 / p * p ≤ 980_000 = div-mul-le_self 980_000 p in
    omega (arith, own, whole)

pub drifting_tracked : (clock : BoardClock) (turns : List BoardTurn) (line : Line) (until : ℕ) → IsValidFreq clock.freq → ppm_size clock.drift ≤ 200 → length turns ≤ 2 ^ 63 → IsSampled clock turns line
    → until * turn_ns ≤ line.at + line_age clock.drift * turn_ns → (x : AreTracked (λ k. board_tick clock k) (one_line line) (length turns)) × (x.until ≡ until)
drifting_tracked clock turns line until v d few x near =
    let s = x.0 in
    let i = x.1 in
    let from = i.from in
    let to = i.to in
    let got = told_before (i.block + 1) s.clock s.got turns i.told in
    let at = ap (λ (l : Line). l.at) x.2 in
    subst (λ (l : Line). (y : AreTracked (λ k. board_tick clock k) (one_line l) (length turns)) × (y.until ≡ until)) (sym x.2)
    (lines_tracked clock (one_line (sampled s clock.freq)) (length turns) until (line_kept clock turns s v few i)
    (λ k low high. keeps_up clock turns s k v d i (omega arith) (not_old clock.drift (k - s.sent) (omega arith))))

-- the first of some further lines holds from a turn on, or later
abbrev StartsBy : ℕ → List Held → Type 0
StartsBy from [] = Unit {0}
StartsBy from (h ∷ held) = from ≤ turn_from h.from

later_starts : (first : Line) (h : Held) (held : List Held) → AreHeld first h.line h.from h.most held → StartsBy (h.from / turn_ns) held
later_starts first h [] kept = tt
later_starts first h (g ∷ held) kept = let after = kept.0 in omega (arith, after)

begins_by : (ready : ℕ) (held : List Held) → NoneBefore ready held → StartsBy ready held
begins_by ready [] none = tt
begins_by ready (h ∷ held) none = omega (arith, none)

-- an exact clock
keep_exact : (clock : BoardClock) (turns : List BoardTurn) (first line : Line) (from start most until : ℕ) (held : List Held) → IsValidFreq clock.freq → clock.drift ≡ pos 0 → AreHeld first line start most held
    → IsSampled clock turns line → AreSampled clock turns held → line.at ≤ from * turn_ns → StartsBy from held → AllKeepUp clock from line held until
keep_exact clock turns first line from start most until [] v d kept x all begun starts = λ k low high. (
    let s = x.0 in
    let at = ap (λ (l : Line). l.at) x.2 in
    subst (λ (l : Line). KeepsUp clock l k) (sym x.2) (keeps_up_always clock turns s k v d x.1 (omega (arith, at, begun, low))))
keep_exact clock turns first line from start most until (h ∷ held) v d kept x all begun starts =
    let s = x.0 in
    let at = ap (λ (l : Line). l.at) x.2 in
    let fit = kept.5 in
    let before = fit.before in (
      λ k low high. subst (λ (l : Line). KeepsUp clock l k) (sym x.2) (keeps_up_always clock turns s k v d x.1 (omega (arith, at, begun, low))),
      keep_exact clock turns first h.line (h.from / turn_ns) h.from h.most until held v d kept.4 all.0 all.1 (let next_at = ap (λ (l : Line). l.at) all.0.2 in omega (arith, next_at, before)) (later_starts first h held kept.4),
      starts,
    )

-- lines of which each is renewed in time
abbrev AreRenewed : ℤ → Line → List Held → ℕ → Type 0
AreRenewed drift line [] until = until * turn_ns ≤ line.at + line_age drift * turn_ns
AreRenewed drift line (h ∷ held) until = (h.from ≤ line.at + line_age drift * turn_ns) × AreRenewed drift h.line held until

keep_renewed : (clock : BoardClock) (turns : List BoardTurn) (first line : Line) (from start most until : ℕ) (held : List Held) → IsValidFreq clock.freq → ppm_size clock.drift ≤ 200 → AreHeld first line start most held
    → IsSampled clock turns line → AreSampled clock turns held → line.at ≤ from * turn_ns → StartsBy from held → AreRenewed clock.drift line held until → AllKeepUp clock from line held until
keep_renewed clock turns first line from start most until [] v d kept x all begun starts new = λ k low high. (
    let s = x.0 in
    let at = ap (λ (l : Line). l.at) x.2 in
    subst (λ (l : Line). KeepsUp clock l k) (sym x.2) (keeps_up clock turns s k v d x.1 (omega (arith, at, begun, low)) (not_old clock.drift (k - s.sent) (omega (arith, at, new, high)))))
keep_renewed clock turns first line from start most until (h ∷ held) v d kept x all begun starts new =
    let s = x.0 in
    let at = ap (λ (l : Line). l.at) x.2 in
    let soon = new.0 in
    let fit = kept.5 in
    let before = fit.before in (
      λ k low high. subst (λ (l : Line). KeepsUp clock l k) (sym x.2) (keeps_up clock turns s k v d x.1 (omega (arith, at, begun, low)) (not_old clock.drift (k - s.sent) (omega (arith, at, soon, high)))),
      keep_renewed clock turns first h.line (h.from / turn_ns) h.from h.most until held v d kept.4 all.0 all.1 (let next_at = ap (λ (l : Line). l.at) all.0.2 in omega (arith, next_at, before)) (later_starts first h held kept.4) new.1,
      starts,
    )

-- Lines that hold from the end of a turn on, or later, do nothing up to it.
abbrev HoldsLater : ℕ → List Held → Type 0
HoldsLater until [] = Unit {0}
HoldsLater until (h ∷ held) = (until + 1) * turn_ns ≤ h.from

record Cut (drift : ℤ) (line : Line) (held : List Held) (until : ℕ) : Type 0 where
  told : List Held
  rest : List Held
  are : held ≡ told ++ rest
  renewed : AreRenewed drift line told until
  later : HoldsLater until rest

cut : (drift : ℤ) (line : Line) (held : List Held) (until : ℕ) → ComeInTime drift line held until → Cut drift line held until
cut drift line [] until c = record { told = []; rest = []; are = refl; renewed = c; later = tt }
cut drift line (h ∷ held) until (inl c) = record { told = []; rest = h ∷ held; are = refl; renewed = c.0; later = c.1 }
cut drift line (h ∷ held) until (inr c) =
    let r = cut drift h.line held until c.1 in
    record { told = h ∷ r.told; rest = r.rest; are = ap (λ hs. h ∷ hs) r.are; renewed = (c.0, r.renewed); later = r.later }

ticks_same : (line : Line) (most time until : ℕ) (told rest : List Held) → HoldsLater until rest → time < (until + 1) * turn_ns → tick_over line most (told ++ rest) time ≡ tick_over line most told time
ticks_same line most time until [] [] later low = refl
ticks_same line most time until [] (h ∷ rest) later low = elim (leb_tells h.from time) [ inl p ↦ absurd (let soon = p.1 in omega (arith, soon, later, low)) | inr p ↦ rw p.0 refl ]
ticks_same line most time until (h ∷ told) rest later low =
    let more = ticks_same h.line (max most (tick line h.from)) time until told rest later low in
    elim (leb_tells h.from time) [ inl p ↦ rw p.0 more | inr p ↦ rw p.0 refl ]

over_most : (line : Line) (most time : ℕ) (held : List Held) → most ≤ tick_over line most held time
over_most line most time [] = omega arith
over_most line most time (h ∷ held) =
    let more = over_most h.line (max most (tick line h.from)) time held in
    elim (leb_tells h.from time) [ inl p ↦ rw p.0 (omega (arith, more)) | inr p ↦ rw p.0 (omega arith) ]

ticks_more : (line : Line) (most time until : ℕ) (told rest : List Held) → HoldsLater until rest → time ≤ (until + 1) * turn_ns → tick_over line most told time ≤ tick_over line most (told ++ rest) time
ticks_more line most time until [] [] later low = omega arith
ticks_more line most time until [] (h ∷ rest) later low =
    let more = over_most h.line (max most (tick line h.from)) time rest in
    elim (leb_tells h.from time) [
      | inl p ↦
          let soon = p.1 in
          let same : time ≡ h.from = omega (arith, soon, later, low) in
          let ticks = ap (tick line) same in
          rw p.0 (omega (arith, more, ticks))
      | inr p ↦ rw p.0 (omega arith)
    ]
ticks_more line most time until (h ∷ told) rest later low =
    let more = ticks_more h.line (max most (tick line h.from)) time until told rest later low in
    elim (leb_tells h.from time) [ inl p ↦ rw p.0 more | inr p ↦ rw p.0 (omega arith) ]

held_front : (first line : Line) (from most : ℕ) (told rest : List Held) → AreHeld first line from most (told ++ rest) → AreHeld first line from most told
held_front first line from most [] rest a = tt
held_front first line from most (h ∷ told) rest a = (a.0, a.1, a.2, a.3, held_front first h.line h.from h.most told rest a.4, a.5)

sampled_front : (clock : BoardClock) (turns : List BoardTurn) (told rest : List Held) → AreSampled clock turns (told ++ rest) → AreSampled clock turns told
sampled_front clock turns [] rest a = tt
sampled_front clock turns (h ∷ told) rest a = (a.0, sampled_front clock turns told rest a.1)

none_front : (ready : ℕ) (told rest : List Held) → NoneBefore ready (told ++ rest) → NoneBefore ready told
none_front ready [] rest n = tt
none_front ready (h ∷ told) rest n = n

drifting_in_time : (clock : BoardClock) (turns : List BoardTurn) (clocks : Clocks) (ready until : ℕ) → IsValidFreq clock.freq → ppm_size clock.drift ≤ 200 → AreKept clocks → IsSampled clock turns clocks.first → AreSampled clock turns clocks.held
    → clocks.first.at ≤ ready * turn_ns → NoneBefore ready clocks.held → ComeInTime clock.drift clocks.first clocks.held until → (x : AreTracked (λ k. board_tick clock k) clocks ready) × (x.until ≡ until)
drifting_in_time clock turns clocks ready until v d kept x all begun none new =
    let c = cut clock.drift clocks.first clocks.held until new in
    let short : Clocks = record { first = clocks.first; held = c.told } in
    let kept_here = held_front clocks.first clocks.first 0 0 c.told c.rest (subst (AreHeld clocks.first clocks.first 0 0) c.are kept.held) in
    let sampled_here = sampled_front clock turns c.told c.rest (subst (AreSampled clock turns) c.are all) in
    let none_here = none_front ready c.told c.rest (subst (NoneBefore ready) c.are none) in
    let keep = keep_renewed clock turns clocks.first clocks.first ready 0 0 until c.told v d kept_here x sampled_here begun (begins_by ready c.told none_here) c.renewed in
    let is = lines_tracked clock short ready until (record { valid = kept.valid; held = kept_here }) keep in
    let Over : List Held → ℕ → ℕ = λ hs time. tick_over clocks.first 0 hs time in
    let same = λ (time : ℕ) (low : time < (until + 1) * turn_ns). ap (λ hs. Over hs time) c.are ∙ ticks_same clocks.first 0 time until c.told c.rest c.later low in
    let more = λ (time : ℕ) (low : time ≤ (until + 1) * turn_ns). subst (λ hs. Over c.told time ≤ Over hs time) (sym c.are) (ticks_more clocks.first 0 time until c.told c.rest c.later low) in
    let at = is.1 in (
      record {
        until = until;
        kept = kept;
        behind = λ k low high. (let own = is.0.behind k low (omega (arith, high, at)) in let least = more ((k + 1) * turn_ns) (omega (arith, high)) in omega (arith, own, least));
        ahead = λ k low high. subst (λ n. n < board_tick clock (k + 4)) (sym (same (k * turn_ns) (omega (arith, high)))) (is.0.ahead k low (omega (arith, high, at)));
      },
      refl,
    )

pub lines_in_time : (clock : BoardClock) (turns : List BoardTurn) (clocks : Clocks) (ready until : ℕ) → IsValidFreq clock.freq → AreKept clocks → IsSampled clock turns clocks.first → AreSampled clock turns clocks.held
    → clocks.first.at ≤ ready * turn_ns → NoneBefore ready clocks.held → (clock.drift ≡ pos 0) ⊎ ((ppm_size clock.drift ≤ 200) × ComeInTime clock.drift clocks.first clocks.held until)
    → (x : AreTracked (λ k. board_tick clock k) clocks ready) × (x.until ≡ until)
lines_in_time clock turns clocks ready until v kept x all begun none (inl exact) =
    lines_tracked clock clocks ready until kept (keep_exact clock turns clocks.first clocks.first ready 0 0 until clocks.held v exact kept.held x all begun (begins_by ready clocks.held none))
lines_in_time clock turns clocks ready until v kept x all begun none (inr (d, new)) = drifting_in_time clock turns clocks ready until v d kept x all begun none new
