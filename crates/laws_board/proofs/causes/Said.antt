-- What a board answers to the askings of connecting, and that it can be told in bytes.
use Rattle.std.proofs.Common.{◌≡◌, ℕ, ◌+◌, ◌<◌, ◌≤◌, ◌^◌, ◌%◌, List, [], ◌∷◌, ◌++◌, length, take, drop, refl, ap, sym, ◌∙◌, arith, inl, subst, rules}
use Rattle.std.proofs.lemmas.List.{length-take}
use Rattle.arrayvec.specs.ArrayVec.{ArrayVec}
use Rattle.vlq_code.specs.Spelling.{spelling}
use Rattle.vlq_code.proofs.Lengths.{spelling_spells}
use Rattle.laws_board.proofs.Names.{own_formats, Cmd, News, IsText, BoardClock, BoardState, Running, Shut, Rig, acts_running, takes, wire_text, LinkState}
use Rattle.msg_dict.specs.Table.{own_id}
use Rattle.msg_dict.specs.declared.row.Row.TheVariants as row
use Rattle.msg_dict.proofs.Rows.{own_number}
use Rattle.msg_code.specs.declared.Param.TheVariants as param
use Rattle.msg_code.specs.declared.cmd.Cmd.TheVariants as cmd
use Rattle.msg_code.specs.Table.{params_of, row_of}
use Rattle.msg_code.specs.Text.{SpellsEach, params_text}
use Rattle.msg_code.proofs.Known.{known}
use Rattle.msg_code.proofs.Sizes.{own_text}
use Rattle.msg_code.proofs.Texts.{is_text}
use Rattle.link_work.specs.Answers.{IsAmong, IsAnswered}
use Rattle.link_work.proofs.Answered.{differ}

piece_spells : (offset : ℕ) (bytes : ArrayVec ℕ) → offset < 2 ^ 32 → length bytes.items ≤ 40 → SpellsEach (param.Number offset ∷ param.Bytes bytes ∷ []) (params_text (param.Number offset ∷ param.Bytes bytes ∷ []))
piece_spells offset bytes a few = search (rules, spelling_spells)

pub piece_text : (offset : ℕ) (bytes : ArrayVec ℕ) → offset < 2 ^ 32 → length bytes.items ≤ 40 → IsText own_formats (cmd.IdentifyResponse offset bytes) (wire_text (cmd.IdentifyResponse offset bytes))
piece_text offset bytes a few =
    let c = cmd.IdentifyResponse offset bytes in
    let r = row_of c in
    is_text own_formats c (own_id r) (spelling (own_id r)) (params_text (params_of c)) (wire_text c) (known own_formats r (own_id r) differ (own_number r)) (spelling_spells (own_id r) (omega arith))
    (piece_spells offset bytes a few) (own_text c) refl

abbrev pub piece_of : Rig → ℕ → Cmd
piece_of r offset = cmd.IdentifyResponse offset (record { items = take 40 (drop offset r.controller.dictionary) })

piece_by : (s : BoardState) (r : Rig) (offset : ℕ) → (acts_running s r (cmd.Identify offset 40)).answers ≡ piece_of r offset ∷ []
piece_by Running r offset = refl
piece_by (Shut reason tick first) r offset = refl

-- the answer to an identify, with the offset that was asked for
pub piece_heard : (clock : BoardClock) (turn place offset : ℕ) (l : LinkState) (news : List News) (a : IsAnswered clock turn l place news) → a.command.command ≡ cmd.Identify offset 40 → offset < 2 ^ 32
    → IsAmong (record { number = a.number + 1; answer = piece_of a.board offset }) news
piece_heard clock turn place offset l news a is small =
    let c = piece_of a.board offset in
    let answers : (takes a.board a.command.command).answers ≡ c ∷ [] = ap (λ (x : Cmd). (takes a.board x).answers) is ∙ piece_by a.board.controller.state a.board offset in
    a.heard c (subst (IsAmong c) (sym answers) (inl refl)) (piece_text offset (record { items = take 40 (drop offset a.board.controller.dictionary) }) small (omega (arith, length-take 40 (drop offset a.board.controller.dictionary))))

-- four numbers
config_spells : (a b c d : ℕ) → a < 2 ^ 32 → b < 2 ^ 32 → c < 2 ^ 32 → d < 2 ^ 32
    → SpellsEach (param.Number a ∷ param.Number b ∷ param.Number c ∷ param.Number d ∷ []) (params_text (param.Number a ∷ param.Number b ∷ param.Number c ∷ param.Number d ∷ []))
config_spells a b c d h i j k = search (rules, spelling_spells)

pub config_text : (moves : ℕ) → IsText own_formats (cmd.Config 1 0 0 (moves % 2 ^ 16)) (wire_text (cmd.Config 1 0 0 (moves % 2 ^ 16)))
config_text moves =
    let n = moves % 2 ^ 16 in
    let few : n < 2 ^ 16 = omega arith in
    let c = cmd.Config 1 0 0 n in
    let same : n % 2 ^ 16 ≡ n = omega arith in
    let back : cmd.Config (1 % 2 ^ 8) 0 (0 % 2 ^ 8) (n % 2 ^ 16) ≡ c = ap (λ (x : ℕ). cmd.Config 1 0 0 x) same in
    is_text own_formats c (own_id row.Config) (spelling (own_id row.Config)) (params_text (params_of c)) (wire_text c) (known own_formats row.Config (own_id row.Config) differ (own_number row.Config))
    (spelling_spells (own_id row.Config) (omega arith)) (config_spells 1 0 0 n (omega arith) (omega arith) (omega arith) (omega arith)) (own_text c) back
