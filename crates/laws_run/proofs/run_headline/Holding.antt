-- Lines that hold one after the other may hold each behind those before it.
use Rattle.std.proofs.Common.{◌≡◌, ℕ, ◌<◌, ◌≤◌, ◌^◌, Bool, true, false, List, [], ◌∷◌, ◌++◌, max, refl, ap, sym, ◌∙◌, arith, append_assoc, append-nil, rules}
use Rattle.std.specs.Prelude.{◌%◌, ◌==◌, ◌&&◌, nat_le, nat_lt}
use Rattle.laws_board.proofs.Names.{nat_tests, Held, Line, tick, Clocks, lines_tick, one_line, AreKept, and_from}
use Rattle.plan_types.specs.Lines.{AreHeld, IsFit, last_from, tick_over}
use Rattle.clock_line.specs.Fits.{are_small, is_later, is_like, may_hold}
use Rattle.clock_line.specs.Kept.{clocks_of}
use Rattle.clock_line.proofs.Holding.{chosen, passed}
use Rattle.clock_line.proofs.Turns.{last_from-above, later-is}
use Rattle.section_feed.specs.Boards.{IsLasting, most_ns}
use Rattle.section_feed.proofs.Lasts.{lines-small, tick-small}
use Rattle.laws_run.specs.run_headline.Timely.{EachMayHold}

-- at its own time a line holds
starts : (first line : Line) (from most : ℕ) (held : List Held) → AreHeld first line from most held → tick_over line most held from ≡ max most (tick line from)
starts first line from most [] are = refl
starts first line from most (h ∷ held) are = let after = are.0 in passed (nat_le h.from from) _ _ (grind (arith, nat_tests))

last_one : (from : ℕ) (held : List Held) (h : Held) → last_from from (held ++ h ∷ []) ≡ h.from
last_one from [] h = refl
last_one from (g ∷ held) h = last_one g.from held h

-- from a time on the ticks by some lines and by more behind them are those by the last of them and these
abbrev GoesOver : Line → List Held → Line → ℕ → ℕ → Type 0
GoesOver first held line from most = (more : List Held) (t : ℕ) → from ≤ t → tick_over first 0 (held ++ more) t ≡ tick_over line most more t

may_one : (first line : Line) (before : List Held) (from : ℕ) → IsFit first line from → last_from 0 before < from → lines_tick (clocks_of first before) from < 2 ^ 64 → tick line from < 2 ^ 64 → tick first from < 2 ^ 64
    → may_hold (clocks_of first before) from line ≡ true
may_one first line before from fit after small own plan = search (rules, and_from, nat_tests, nat_lt, nat_le, lines_tick, tick)

may_behind : (first : Line) (all before : List Held) (line : Line) (from most : ℕ) (held : List Held) → IsLasting (clocks_of first all) → before ++ held ≡ all → last_from 0 before ≡ from → GoesOver first before line from most
    → AreHeld first line from most held → last_from from held < most_ns → EachMayHold (clocks_of first before) held
may_behind first all before line from most [] lasting is last over are soon = tt
may_behind first all before line from most (h ∷ held) lasting is last over are soon =
    let after = are.0 in
    let most_is = are.1 in
    let up = last_from-above first h.line h.from h.most held are.4 in
    let here : lines_tick (clocks_of first before) h.from ≡ h.most = ap (λ hs. tick_over first 0 hs h.from) (sym (append-nil before)) ∙ over [] h.from (omega arith) ∙ sym most_is in
    let there : lines_tick (clocks_of first all) h.from ≡ max h.most (tick h.line h.from) =
    ap (λ hs. tick_over first 0 hs h.from) (sym is) ∙ over (h ∷ held) h.from (omega arith) ∙ later-is line most h held h.from (omega arith) ∙ ap (λ n. tick_over h.line n held h.from) (sym most_is)
    ∙ starts first h.line h.from h.most held are.4 in
    let small = lines-small (clocks_of first all) h.from lasting (omega arith) in
    let plan = tick-small (clocks_of first all) h.from lasting (omega arith) in
    let now : Held = record { from = h.from; line = h.line; most = lines_tick (clocks_of first before) h.from; start = tick h.line h.from; plan = tick first h.from } in
    let same : now ≡ h = λ k. record { from = h.from; line = h.line; most = here k; start = sym are.2 k; plan = sym are.3 k } in
    let one = may_one first h.line before h.from are.5 (omega arith) (omega arith) (omega arith) (omega arith) in
    let goes : GoesOver first (before ++ now ∷ []) h.line h.from h.most = λ more t late.
    ap (λ hs. tick_over first 0 hs t) (append_assoc before (now ∷ []) more) ∙ over (now ∷ more) t (omega arith) ∙ later-is line most now more t late ∙ ap (λ n. tick_over h.line n more t) (sym most_is) in
    let whole : (before ++ now ∷ []) ++ held ≡ all = append_assoc before (now ∷ []) held ∙ ap (λ (x : Held). before ++ x ∷ held) same ∙ is in
    (one, may_behind first all (before ++ now ∷ []) h.line h.from h.most held lasting whole (last_one 0 before now) goes are.4 soon)

pub may_each : (clocks : Clocks) → AreKept clocks → IsLasting clocks → EachMayHold (one_line clocks.first) clocks.held
may_each clocks kept lasting =
    let soon = lasting.soon in
    may_behind clocks.first clocks.held [] clocks.first 0 0 clocks.held lasting refl refl (λ more t late. refl) kept.held soon
