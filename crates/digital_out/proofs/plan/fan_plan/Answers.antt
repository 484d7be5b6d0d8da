use Rattle.std.proofs.Common.{◌≡◌, ℕ, ◌<◌, ◌≤◌, ◌+◌, ◌-◌, ◌^◌, ◌∙◌, All, List, false, length, map, arith, sym, subst, ap}
use Rattle.plan_types.specs.Numbers.{UpFrom}
use Rattle.gcode_program.specs.Programs.{program_sections}
use Rattle.plan_types.specs.Clock.{tick_limit}
use Rattle.plan_types.specs.Machines.{IsValidBoard}
use Rattle.digital_out.specs.declared.word.FanWord.{FanWord}
use Rattle.digital_out.specs.Ends.{AreWordsFrom, last_time, moves_in}
use Rattle.digital_out.specs.Wants.{changes, last_ones, want_at}
use Rattle.digital_out.specs.Words.{fan_words_in}
use Rattle.digital_out.proofs.Ordering.{AreGood, are_good, words_there}
use Rattle.digital_out.proofs.Reading.{words_are}
use Rattle.digital_out.proofs.Timing.{times_small}
use Rattle.digital_out.proofs.plan.fan_plan.Goals.{After-drop-program-2}
use Rattle.digital_out.proofs.plan.fan_plan.Goals as goal

pub wants_of-requires-clause-there : goal.wants_of-requires-clause-there
wants_of-requires-clause-there c =
    let m = c.args.machine.now in
    let text = c.args.text.now in
    let count : length c.deref.result.now ≡ moves_in (program_sections m text) + 1 = ap length c.deref.ensures.value ∙ c.in_ok-times.ensures.count ∙ ap (λ s. moves_in s + 1) (c.as_slice.ensures ∙ c.in_ok-program.ensures.sections) in
    let words : c.deref-2.result.now ≡ fan_words_in m text = c.deref-2.ensures.value ∙ c.in_ok-words.ensures in
    subst (λ (ws : List FanWord). All (λ w. w.moves < length c.deref.result.now) ws) (sym words) (words_there 0 (moves_in (program_sections m text)) (length c.deref.result.now) (fan_words_in m text) (words_are m text) (omega (arith, count)))

good : (c : After-drop-program-2) → AreGood (tick_limit - 2 ^ 32) c.in_ok-wants.wants.items
good c =
    let m = c.args.machine.now in
    let text = c.args.text.now in
    let most = moves_in (program_sections m text) in
    let times = c.deref.result.now in
    let count : length times ≡ most + 1 = ap length c.deref.ensures.value ∙ c.in_ok-times.ensures.count ∙ ap (λ s. moves_in s + 1) (c.as_slice.ensures ∙ c.in_ok-program.ensures.sections) in
    let words : c.deref-2.result.now ≡ fan_words_in m text = c.deref-2.ensures.value ∙ c.in_ok-words.ensures in
    let all : c.in_ok-wants.wants.items ≡ changes false (last_ones (map (want_at c.own_line-line.result times) c.deref-2.result.now)) =
    c.in_ok-wants.ensures ∙ ap (changes false) (c.deref-4.ensures.value ∙ c.in_ok-kept.ensures ∙ ap last_ones (c.deref-3.ensures.value ∙ c.in_ok-all.ensures)) in
    let are : AreWordsFrom 0 most c.deref-2.result.now = subst (λ (ws : List FanWord). AreWordsFrom 0 most ws) (sym words) (words_are m text) in
    let ordered : UpFrom 0 times = subst (λ (ts : List ℕ). UpFrom 0 ts) (sym c.deref.ensures.value) c.in_ok-times.ensures.ordered in
    let soon : All (λ t. t ≤ last_time) times = subst (λ (ts : List ℕ). All (λ t. t ≤ last_time) ts) (sym c.deref.ensures.value) c.in_ok-times.ensures.soon in
    let valid : IsValidBoard c.index-as_slice-fan.result = rw (c.index-as_slice-fan.is, c.as_slice-2.ensures) (c.requires.machine.boards c.args.fan.board _ c.requires.fan) in
    are_good c.own_line-line.result times most (tick_limit - 2 ^ 32) c.deref-2.result.now c.in_ok-wants.wants.items all ordered (omega (arith, count)) are
    (times_small c.index-as_slice-fan.result c.own_line-line.result times c.own_line-line.ensures valid soon)

pub returns-clause-rise : goal.returns-clause-rise
returns-clause-rise c = (good c).rise

pub returns-clause-small : goal.returns-clause-small
returns-clause-small c = (good c).small

pub returns-clause-alternate : goal.returns-clause-alternate
returns-clause-alternate c = (good c).alternate
