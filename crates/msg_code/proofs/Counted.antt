-- How many bytes a command has.
use Rattle.std.proofs.Common.{◌≡◌, ◌+◌, ◌-◌, ◌*◌, ◌%◌, ◌^◌, Bool, false, cond, List, [], ◌∷◌, length, refl, ap, ◌∙◌, arith}
use Rattle.std.proofs.lemmas.Bool.{lt-leb}
use Rattle.std.proofs.lemmas.List.{length-append}
use Rattle.vlq_code.specs.Spelling.{spelling, byte_count, needs_more}
use Rattle.vlq_code.proofs.Lengths.{spelling_length_is}
use Rattle.msg_dict.specs.Own.{own_formats}
use Rattle.msg_dict.specs.Table.{own_id}
use Rattle.msg_dict.specs.declared.row.Row.{Row}
use Rattle.msg_dict.proofs.Rows.{own_small}
use Rattle.msg_code.specs.declared.cmd.Cmd.{Cmd}
use Rattle.msg_code.specs.declared.Param.{Param}
use Rattle.msg_code.specs.declared.Param.TheVariants as param
use Rattle.msg_code.specs.Table.{row_of, params_of}
use Rattle.msg_code.specs.Text.{param_text, params_text, command_text}
use Rattle.msg_code.specs.Bytes.{param_bytes, params_bytes, command_bytes}
use Rattle.msg_code.proofs.Sizes.{own_length}

one_byte : (r : Row) → byte_count (own_id r) ≡ 1
one_byte r =
    let n = own_id r in
    let more : needs_more 1 n ≡ false = lt-leb (2 ^ (7 * 1)) ((n + 2 ^ (7 * 1 - 2)) % 2 ^ 32) (omega (arith, own_small r)) in
    ap (λ (b : Bool). cond b (cond (needs_more 2 n) (cond (needs_more 3 n) (cond (needs_more 4 n) 5 4) 3) 2) 1) more

param_length : (p : Param) → length (param_text p) ≡ param_bytes p
param_length (param.Number n) = spelling_length_is n
param_length (param.Bytes bytes) =
    length-append (spelling (length bytes.items)) bytes.items ∙ ap (λ n. n + length bytes.items) (spelling_length_is (length bytes.items))

params_length : (ps : List Param) → length (params_text ps) ≡ params_bytes ps
params_length [] = refl
params_length (p ∷ ps) =
    length-append (param_text p) (params_text ps) ∙ ap (λ n. n + length (params_text ps)) (param_length p)
    ∙ ap (λ n. param_bytes p + n) (params_length ps)

pub bytes_of : (c : Cmd) → length (command_text own_formats c) ≡ command_bytes c
unfolding command_bytes
bytes_of c =
    own_length c ∙ ap (λ n. n + length (params_text (params_of c))) (one_byte (row_of c)) ∙ ap (λ n. 1 + n) (params_length (params_of c))
