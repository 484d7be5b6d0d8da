-- Which bytes are an answer that tells of a trigger: that it can't trigger, and whatever it tells.
use Rattle.std.proofs.Common.{◌≡◌, ℕ, ◌%◌, ◌^◌, ◌<◌, List, [], ◌∷◌, ◌++◌, refl, ap, sym, ◌∙◌, subst, arith, rules}
use Rattle.vlq_code.specs.Spelling.{Spells, spelling}
use Rattle.vlq_code.proofs.Lengths.{spelling_spells}
use Rattle.vlq_code.proofs.Spelled.{joined_alike, one_number}
use Rattle.msg_dict.specs.declared.row.Row.{Row}
use Rattle.msg_dict.specs.declared.row.Row.TheVariants as row
use Rattle.laws_board.proofs.Names.{own_formats, Cmd, IsText, wire_text}
use Rattle.msg_dict.specs.declared.row.Kind.TheVariants as kind
use Rattle.msg_dict.specs.Table.{kinds, own_id}
use Rattle.msg_code.specs.declared.Param.{Param}
use Rattle.msg_code.specs.declared.Param.TheVariants as param
use Rattle.msg_code.specs.declared.cmd.Cmd.TheVariants as cmd
use Rattle.msg_code.specs.Table.{command, params_of, row_of}
use Rattle.msg_code.specs.Text.{SpellsAll, params_text}
use Rattle.msg_code.proofs.Sizes.{own_text}
use Rattle.msg_code.proofs.Texts.{is_text, one_text}
use Rattle.laws_board.proofs.clocks.Uptimes.{own_row, row_back, same_row, small}

-- the row of an answer, and how its parameters are spelled
record Alike (c : Cmd) (told : Cmd) : Type 0 where
  params : List Param
  rest : List ℕ
  spelled : SpellsAll (kinds (row_of c)) params rest
  same : rest ≡ params_text (params_of c)
  says : told ≡ command (row_of c) params

cancel : (a b x y : List ℕ) → a ≡ b → a ++ x ≡ b ++ y → x ≡ y
cancel [] [] x y e f = f
cancel [] (q ∷ b) x y e f = absurd (cc)
cancel (p ∷ a) [] x y e f = absurd (cc)
cancel (p ∷ a) (q ∷ b) x y e f = cancel a b x y (cc) (cc)

alike : (c told : Cmd) → IsText own_formats told (wire_text c) → Alike c told
alike c told t = search (rules, spelling_spells, small, own_text, joined_alike, one_number, same_row, own_row, cancel)

-- the first two numbers of an answer
two : (ps : List Param) (rest : List ℕ) (a b : ℕ) (more : List ℕ) → a < 2 ^ 32 → b < 2 ^ 32 → SpellsAll (kind.Number ∷ kind.Number ∷ kind.Number ∷ kind.Number ∷ []) ps rest
    → rest ≡ spelling a ++ (spelling b ++ more)
    → (x : ℕ) × (y : ℕ) × (qs : List Param) × (ps ≡ param.Number x ∷ param.Number y ∷ qs) × (x ≡ a) × (y ≡ b)
two ps rest a b more p5 p6 p7 p8 = search (rules, spelling_spells, joined_alike, cancel, one_number)

same_state : (a b c d e f g h : ℕ) → cmd.TrsyncState a b c d ≡ cmd.TrsyncState e f g h → (a ≡ e) × (b ≡ f) × (c ≡ g) × (d ≡ h)
same_state a b c d e f g h s = (cc, cc, cc, cc)

by_params : (ps : List Param) (x y : ℕ) (qs : List Param) (j reason clock : ℕ) → ps ≡ param.Number x ∷ param.Number y ∷ qs → cmd.TrsyncState j 0 reason clock ≡ command row.TrsyncState ps → x < 2 ^ 8 → y < 2 ^ 8 → (x ≡ j) × (y ≡ 0)
by_params ps x y qs j reason clock e s k l = search (rules, same_state)

-- an answer that tells of a trigger is about this one, and tells that it can't trigger
pub state_is : (a b r k j reason clock : ℕ) → a < 2 ^ 8 → b < 2 ^ 8 → IsText own_formats (cmd.TrsyncState j 0 reason clock) (wire_text (cmd.TrsyncState a b r k)) → (a ≡ j) × (b ≡ 0)
state_is a b r k j reason clock l m t =
    let s = alike (cmd.TrsyncState a b r k) (cmd.TrsyncState j 0 reason clock) t in
    let n = two s.params s.rest a b (params_text (param.Number r ∷ param.Number k ∷ [])) (omega (arith, l)) (omega (arith, m)) s.spelled s.same in
    let x : n.0 < 2 ^ 8 = omega (arith, n.4, l) in
    let y : n.1 < 2 ^ 8 = omega (arith, n.5, m) in
    let both = by_params s.params n.0 n.1 n.2 j reason clock n.3 s.says x y in
    (sym n.4 ∙ both.0, sym n.5 ∙ both.1)

-- a command that has the bytes of another has its row
pub same_kind : (c told : Cmd) → IsText own_formats told (wire_text c) → row_of told ≡ row_of c
same_kind c told t = let s = alike c told t in ap row_of s.says ∙ row_back (row_of c) s.params

whole_state : (a b r k x y z : ℕ) → x ≡ a → y ≡ b → z ≡ r → cmd.TrsyncState x y z k ≡ cmd.TrsyncState a b r k
whole_state a b r k x y z e f g = cc

-- the bytes of an answer that tells of a trigger, whose numbers fit, are its own
pub own_state : (a b r k : ℕ) → a < 2 ^ 8 → b < 2 ^ 8 → r < 2 ^ 8 → k < 2 ^ 32 → IsText own_formats (cmd.TrsyncState a b r k) (wire_text (cmd.TrsyncState a b r k))
own_state a b r k la lb lr lk =
    let c = cmd.TrsyncState a b r k in
    let text = params_text (params_of c) in
    is_text own_formats c (own_id row.TrsyncState) (spelling (own_id row.TrsyncState)) text (wire_text c) (own_row row.TrsyncState)
    (spelling_spells (own_id row.TrsyncState) (small row.TrsyncState))
    (record {
      first = spelling a;
      rest = params_text (param.Number b ∷ param.Number r ∷ param.Number k ∷ []);
      is_first = spelling_spells a (omega (arith, la));
      is_rest = record {
        first = spelling b;
        rest = params_text (param.Number r ∷ param.Number k ∷ []);
        is_first = spelling_spells b (omega (arith, lb));
        is_rest = record {
          first = spelling r;
          rest = params_text (param.Number k ∷ []);
          is_first = spelling_spells r (omega (arith, lr));
          is_rest = record { first = spelling k; rest = []; is_first = spelling_spells k lk; is_rest = refl; joined = refl };
          joined = refl;
        };
        joined = refl;
      };
      joined = refl;
    }) (own_text c) (whole_state a b r k (a % 2 ^ 8) (b % 2 ^ 8) (r % 2 ^ 8) (omega (arith, la)) (omega (arith, lb)) (omega (arith, lr)))

-- and no other answer has them
pub state_told : (a b r k oid can reason clock : ℕ) → a < 2 ^ 8 → b < 2 ^ 8 → r < 2 ^ 8 → k < 2 ^ 32 → IsText own_formats (cmd.TrsyncState oid can reason clock) (wire_text (cmd.TrsyncState a b r k))
    → (oid ≡ a) × (can ≡ b) × (reason ≡ r) × (clock ≡ k)
state_told a b r k oid can reason clock la lb lr lk t =
    let c = cmd.TrsyncState a b r k in
    let same = one_text own_formats (cmd.TrsyncState oid can reason clock) c (wire_text c) (wire_text c) [] [] t (own_state a b r k la lb lr lk) refl in
    same_state oid can reason clock a b r k same.1
