-- Which bytes are an answer that tells the clock.
use Rattle.std.proofs.Common.{◌≡◌, ℕ, ◌+◌, ◌*◌, ◌/◌, ◌%◌, ◌^◌, ◌<◌, true, List, [], ◌∷◌, ◌++◌, Some, refl, ap, sym, ◌∙◌, arith, length, length-append, rules}
use Rattle.vlq_code.specs.Spelling.{Spells, spelling}
use Rattle.vlq_code.proofs.Lengths.{some, spelling_spells}
use Rattle.vlq_code.proofs.Spelled.{joined_alike, one_number}
use Rattle.msg_dict.specs.declared.row.Row.{Row}
use Rattle.msg_dict.specs.declared.row.Row.TheVariants as row
use Rattle.msg_dict.specs.Dictionary.{numbers_differ}
use Rattle.laws_board.proofs.Names.{own_formats, Cmd, IsText, wire_text}
use Rattle.msg_dict.specs.Table.{own_id}
use Rattle.msg_dict.proofs.Rows.{own_number, own_small}
use Rattle.msg_code.specs.declared.Param.{Param}
use Rattle.msg_code.specs.declared.Param.TheVariants as param
use Rattle.msg_code.specs.declared.cmd.Cmd.TheVariants as cmd
use Rattle.msg_code.specs.Table.{command, params_of, row_of}
use Rattle.msg_code.specs.Text.{params_text, row_at}
use Rattle.msg_code.proofs.Known.{known}
use Rattle.msg_code.proofs.Sizes.{own_text}
use Rattle.msg_code.proofs.Texts.{is_text, one_text}
use Rattle.link_work.proofs.Answered.{differ}

pub small : (r : Row) → own_id r < 2 ^ 32
small r = omega (arith, own_small r)

pub row_back : (r : Row) (ps : List Param) → row_of (command r ps) ≡ r
row_back row.IdentifyResponse ps = refl
row_back c ps = refl

pub own_row : (r : Row) → row_at own_formats (own_id r) ≡ Some (Some r)
own_row r = known own_formats r (own_id r) differ (own_number r)

pub same_row : (m n : ℕ) (r s : Row) → m ≡ n → row_at own_formats m ≡ Some (Some r) → row_at own_formats n ≡ Some (Some s) → r ≡ s
same_row m n r s e f g = let h : row_at own_formats m ≡ row_at own_formats n = ap (row_at own_formats) e in cc

-- no bytes are no answer
pub none_said : (c : Cmd) → IsText own_formats c [] → ⊥
none_said c t = search (rules, some, length-append)

-- only an answer that tells the clock has such bytes
pub uptime_row : (c : Cmd) (high low : ℕ) → IsText own_formats (cmd.Uptime high low) (wire_text c) → row_of c ≡ row.Uptime
uptime_row c high low t = search (rules, spelling_spells, small, own_text, joined_alike, one_number, same_row, own_row, row_back)

both_same : (a b c d : ℕ) → cmd.Uptime a b ≡ cmd.Uptime c d → (a ≡ c) × (b ≡ d)
both_same a b c d e = (cc, cc)

uptime_is : (a b high low : ℕ) → a < 2 ^ 32 → b < 2 ^ 32 → IsText own_formats (cmd.Uptime high low) (wire_text (cmd.Uptime a b)) → (high ≡ a) × (low ≡ b)
uptime_is a b high low k l t =
    let c = cmd.Uptime a b in
    let text = params_text (params_of c) in
    let mine : IsText own_formats c (wire_text c) = is_text own_formats c (own_id row.Uptime) (spelling (own_id row.Uptime)) text (wire_text c) (own_row row.Uptime)
    (spelling_spells (own_id row.Uptime) (small row.Uptime))
    (record {
      first = spelling a;
      rest = params_text (param.Number b ∷ []);
      is_first = spelling_spells a k;
      is_rest = record { first = spelling b; rest = []; is_first = spelling_spells b l; is_rest = refl; joined = refl };
      joined = refl;
    }) (own_text c) refl in
    let same = one_text own_formats (cmd.Uptime high low) c (wire_text c) (wire_text c) [] [] t mine refl in
    both_same high low a b same.1

-- an answer that tells the clock tells this tick
abbrev pub TellsTick : ℕ → Cmd → Type 0
TellsTick tick (cmd.Uptime high low) = (high ≡ tick / 2 ^ 32) × (low ≡ tick % 2 ^ 32)
TellsTick tick c = Unit {0}

whole_tick : (tick high low a b : ℕ) → a ≡ tick / 2 ^ 32 → b ≡ tick % 2 ^ 32 → high ≡ a → low ≡ b → high * 2 ^ 32 + low ≡ tick
whole_tick tick high low a b k l m n = omega arith

by_row : (tick : ℕ) (c : Cmd) (high low : ℕ) → tick < 2 ^ 64 → TellsTick tick c → row_of c ≡ row.Uptime → IsText own_formats (cmd.Uptime high low) (wire_text c) → high * 2 ^ 32 + low ≡ tick
by_row tick (cmd.Uptime a b) high low few t e x =
    let k : a < 2 ^ 32 = omega (arith, t.0) in
    let l : b < 2 ^ 32 = omega (arith, t.1) in
    let same = uptime_is a b high low k l x in
    whole_tick tick high low a b t.0 t.1 same.0 same.1
by_row tick c high low few t e x = cc

pub tells_tick : (tick : ℕ) (c : Cmd) (high low : ℕ) → tick < 2 ^ 64 → TellsTick tick c → IsText own_formats (cmd.Uptime high low) (wire_text c) → high * 2 ^ 32 + low ≡ tick
tells_tick tick c high low few t x = by_row tick c high low few t (uptime_row c high low x) x

-- an answer that tells no clock
abbrev pub IsNoClock : Cmd → Type 0
IsNoClock (cmd.Uptime high low) = ⊥
IsNoClock c = Unit {0}

not_by_row : (c : Cmd) → IsNoClock c → row_of c ≡ row.Uptime → ⊥
not_by_row (cmd.Uptime a b) t e = t
not_by_row c t e = cc

pub tells_none : (c : Cmd) (high low : ℕ) → IsNoClock c → IsText own_formats (cmd.Uptime high low) (wire_text c) → ⊥
tells_none c high low t x = not_by_row c t (uptime_row c high low x)
