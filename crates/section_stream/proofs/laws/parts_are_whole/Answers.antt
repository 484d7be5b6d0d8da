use Rattle.std.proofs.Common.{◌≡◌, [], ◌++◌, drop, arith, ap, sym, ◌∙◌}
use Rattle.std.proofs.lemmas.List.{append-nil, drop_all}
use Rattle.plan_types.specs.Sections.{end_time, timed_moves}
use Rattle.plan_types.specs.Speeds.{greatest_speeds}
use Rattle.section_stream.specs.Moving.{cruise_of, given_count, is_open, time_of}
use Rattle.section_stream.proofs.Fronts.{future-here}
use Rattle.section_stream.proofs.laws.parts_are_whole.Goals as goal

pub returns-clause-parts : goal.returns-clause-parts
returns-clause-parts c = λ s scv moves made h closed all. (
    let f = h.front moves (future-here (is_open s) moves) in
    let none : drop (given_count s) moves ≡ [] = drop_all (given_count s) moves (omega arith) in
    let rest : timed_moves (cruise_of s) (drop (given_count s) moves) (drop (given_count s) (greatest_speeds moves scv)) (time_of s) ≡ [] = ap (λ ms. timed_moves (cruise_of s) ms (drop (given_count s) (greatest_speeds moves scv)) (time_of s)) none in
    sym (f.parts_are ∙ ap (λ ps. made ++ ps) rest ∙ append-nil made))

pub returns-clause-time : goal.returns-clause-time
returns-clause-time c = λ s scv moves made h closed all. (
    let f = h.front moves (future-here (is_open s) moves) in
    let none : drop (given_count s) moves ≡ [] = drop_all (given_count s) moves (omega arith) in
    sym (f.end_is ∙ ap (λ ms. end_time (cruise_of s) ms (drop (given_count s) (greatest_speeds moves scv)) (time_of s)) none))
