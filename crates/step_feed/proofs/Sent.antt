-- The bytes of a unit are those of its commands.
use Rattle.std.proofs.Common.{◌≡◌, ℕ, ◌+◌, ◌%◌, ◌^◌, Bool, true, false, List, [], ◌∷◌, ◌++◌, length, Option, Some, None, refl, ap, sym, ◌∙◌, arith}
use Rattle.std.specs.Int.{cast_unsigned, w32}
use Rattle.std.specs.List.{flat_map}
use Rattle.std.proofs.lemmas.List.{length-append}
use Rattle.vlq_code.specs.Spelling.{byte_count}
use Rattle.msg_dict.specs.Own.{own_formats}
use Rattle.msg_code.specs.declared.cmd.Cmd.{Cmd}
use Rattle.msg_code.specs.declared.cmd.Cmd.TheVariants as cmd
use Rattle.msg_code.specs.Text.{command_text}
use Rattle.msg_code.specs.Units.{reset_commands, bit, dir_commands, step_command, unit_commands, unit_text}
use Rattle.msg_code.proofs.Sizes.{own_length, numbers_length}
use Rattle.step_feed.specs.Units.{StepUnit, queue_bytes, dir_bytes, reset_bytes, unit_bytes}

abbrev text : Cmd → List ℕ
text c = command_text own_formats c

abbrev all : List Cmd → List ℕ
all cs = flat_map (command_text own_formats) cs

one : (c : Cmd) → length (all (c ∷ [])) ≡ length (text c)
one c = length-append (text c) [] ∙ omega arith

reset_sent : (oid : ℕ) (o : Option ℕ) → length (all (reset_commands oid o)) ≡ reset_bytes oid o
reset_sent oid None = refl
reset_sent oid (Some tick) =
    let c = cmd.ResetStepClock oid (tick % 2 ^ 32) in
    let params = numbers_length (oid ∷ tick % 2 ^ 32 ∷ []) in
    one c ∙ own_length c ∙ ap (λ n. 1 + n) params ∙ omega arith

dir_sent : (oid : ℕ) (o : Option Bool) → length (all (dir_commands oid o)) ≡ dir_bytes oid o
dir_sent oid None = refl
dir_sent oid (Some false) =
    let c = cmd.SetNextStepDir oid 0 in
    one c ∙ own_length c ∙ ap (λ n. 1 + n) (numbers_length (oid ∷ 0 ∷ [])) ∙ omega arith
dir_sent oid (Some true) =
    let c = cmd.SetNextStepDir oid 1 in
    one c ∙ own_length c ∙ ap (λ n. 1 + n) (numbers_length (oid ∷ 1 ∷ [])) ∙ omega arith

steps_sent : (u : StepUnit) → length (all (step_command u ∷ [])) ≡ queue_bytes u
unfolding queue_bytes
steps_sent u =
    let c = step_command u in
    let ns : List ℕ = u.stepper ∷ u.triple.interval ∷ u.triple.count ∷ cast_unsigned w32 u.triple.add ∷ [] in
    one c ∙ own_length c ∙ ap (λ n. 1 + n) (numbers_length ns) ∙ omega arith

parts : (a b c : List Cmd) → length (all (a ++ (b ++ c))) ≡ length (all c) + length (all b) + length (all a)
parts [] [] c = omega arith
parts [] (x ∷ b) c = length-append (text x) (all (b ++ c)) ∙ ap (λ n. length (text x) + n) (parts [] b c) ∙ (let e = length-append (text x) (all b) in omega arith)
parts (x ∷ a) b c = length-append (text x) (all (a ++ (b ++ c))) ∙ ap (λ n. length (text x) + n) (parts a b c) ∙ (let e = length-append (text x) (all a) in omega arith)

pub sent : (u : StepUnit) → length (unit_text u) ≡ unit_bytes u
unfolding unit_bytes
sent u =
    let r = reset_sent u.stepper u.reset in
    let d = dir_sent u.stepper u.up in
    let s = steps_sent u in
    let p = parts (reset_commands u.stepper u.reset) (dir_commands u.stepper u.up) (step_command u ∷ []) in
    p ∙ (rw (r, d, s) refl)
