-- The program's command: its first word names a subcommand, and the others are that one's operands.
use Rattle.std.proofs.Common.{◌≡◌, ◌∙◌, ◌||◌, ◌&&◌, ◌⊎◌, inl, inr, subst, Bool, true, false, refl, sym, ap, List, [], ◌∷◌, ◌++◌, Some, None, codes, true≢false}
use Rattle.std.specs.Prelude.{find, fold}
use Rattle.std.specs.Str.{bytes_eq}
use Rattle.clap.specs.Walk.{Names, Row, Text, Walk, answers_to, is_empty, nothing_held, walk, walked, rows_after}
use Rattle.clap.specs.Simple.{Shape, built, label_of, names_of, rows_at, subcommand_of}
use Rattle.clap.specs.Kinds.{Kinds, or_else}
use Rattle.clap.specs.Faults.{fault_of, is_simple_and_free, level_fault, walk_fault, turn_fault, defaults_fault}
use Rattle.clap.proofs.WalkLemmas.{walk_stopped}
use Rattle.command_words.specs.Forms.{is_name}
use Rattle.command_words.specs.Commands.{program}
use Rattle.command_words.specs.Calls.{call_of, operands_in, takes_two, takes_three}
use Rattle.std.proofs.lemmas.Slice.Eq.{bytes_eq-Decides}
use Rattle.std.specs.List.{list_all}
use Rattle.command_words.proofs.Leaf.{none_fails, one_fails, two_pass, three_pass, four_fail, rows_of_two, rows_of_three, rows_two, rows_three, two-none_fails, two-one_fails, two-pass, two-rows, two-three_fail, all-rows, all-pass, all-none_fails, all-one_fails, all-two_fail, all-four_fail, leaf_two, leaf_three, leaf_all, standing, turn_value}
use Rattle.std.proofs.lemmas.Bool.{or_parts}

pub is_simple_program : is_simple_and_free program ≡ true
is_simple_program = refl

abbrev names : Names
names = names_of (built program)

-- a word is the name of a subcommand
abbrev is_command : Text → Bool
is_command w = bytes_eq (codes "run") w || (bytes_eq (codes "make") w || (bytes_eq (codes "fan") w || (bytes_eq (codes "check") w || (bytes_eq (codes "dump") w || (bytes_eq (codes "replay") w || bytes_eq (codes "mesh") w)))))

no_such : (w : Text) → is_command w ≡ false → find (answers_to w) names ≡ None
no_such w e =
    let parts = or_parts (bytes_eq (codes "run") w) (bytes_eq (codes "make") w || (bytes_eq (codes "fan") w || (bytes_eq (codes "check") w || (bytes_eq (codes "dump") w || (bytes_eq (codes "replay") w || bytes_eq (codes "mesh") w))))) e in
    let more = or_parts (bytes_eq (codes "make") w) (bytes_eq (codes "fan") w || (bytes_eq (codes "check") w || (bytes_eq (codes "dump") w || (bytes_eq (codes "replay") w || bytes_eq (codes "mesh") w)))) parts.1 in
    let fans = or_parts (bytes_eq (codes "fan") w) (bytes_eq (codes "check") w || (bytes_eq (codes "dump") w || (bytes_eq (codes "replay") w || bytes_eq (codes "mesh") w))) more.1 in
    let others = or_parts (bytes_eq (codes "check") w) (bytes_eq (codes "dump") w || (bytes_eq (codes "replay") w || bytes_eq (codes "mesh") w)) fans.1 in
    let last = or_parts (bytes_eq (codes "dump") w) (bytes_eq (codes "replay") w || bytes_eq (codes "mesh") w) others.1 in
    let end = or_parts (bytes_eq (codes "replay") w) (bytes_eq (codes "mesh") w) last.1 in
    rw (parts.0, more.0, fans.0, others.0, last.0, end.0, end.1) refl

pub unknown_fails : (w : Text) (ws : List Text) → is_name w ≡ true → is_command w ≡ false → is_empty (fault_of program (w ∷ ws)) ≡ false
unfolding walk_fault
unknown_fails w ws ok e = rw (turn_value (built program).top names nothing_held 1 w ok (no_such w e)) refl

pub nothing_fails : is_empty (fault_of program []) ≡ false
unfolding walk_fault defaults_fault
nothing_fails = refl

-- behind a subcommand's name no word is a fault of the command above it
passed_on : (s : Shape) (w : Walk) (p : Text × List Text) (ws : List Text) → walk_fault s names (record w { stopped = Some p }) ws ≡ []
unfolding walk_fault walked
passed_on s w p [] = refl
passed_on s w p (v ∷ ws) = passed_on s w (p.0, p.1 ++ v ∷ []) ws

alone : (k : Kinds) → or_else k [] ≡ k
alone [] = refl
alone (x ∷ xs) = refl

-- where the walk stands behind a subcommand's name
abbrev stopped_at : Text → List Text → Walk
stopped_at n ws = record (standing nothing_held 1) { stopped = Some (n, ws) }

module _ (n : Text) (l : Shape) (named : walked (built program).top.rules names (standing nothing_held 1) n ≡ stopped_at n [])
    (quiet : turn_fault (built program).top names (standing nothing_held 1) n ≡ [])
    (found : find (λ (s : Shape). answers_to n (label_of s)) (built program).subs ≡ Some l)
    (at : (ws : List Text) → rows_at l ws ≡ (n, rows_after l.rules [] ws)) where
  stops : (ws : List Text) → walk (built program).top.rules names nothing_held (n ∷ ws) ≡ stopped_at n ws
  stops ws = ap (λ (w : Walk). fold (walked (built program).top.rules names) w ws) named ∙ sym (walk_stopped (built program).top.rules names (standing nothing_held 1) n [] ws)

  pub named_fault : (ws : List Text) → fault_of program (n ∷ ws) ≡ level_fault l [] nothing_held ws false []
  unfolding walk_fault defaults_fault
  named_fault ws = rw (stops ws, quiet, named, passed_on (built program).top (standing nothing_held 1) (n, []) ws, found) (alone _)

  pub named_rows : (ws : List Text) → subcommand_of program (n ∷ ws) ≡ Some (n, rows_after l.rules [] ws)
  named_rows ws = rw (stops ws, found) (ap (λ (r : Text × List Row). Some r) (at ws))

-- what a parse of the words comes to: the subcommand with its operands, or a fault
abbrev pub Calls : List Text → Type 0
Calls ws = (n : Text) × (rows : List Row) × (fault_of program ws ≡ []) × (subcommand_of program ws ≡ Some (n, rows)) × (call_of ws ≡ Some (n, operands_in rows))

abbrev pub Refuses : List Text → Type 0
Refuses ws = (is_empty (fault_of program ws) ≡ false) × (call_of ws ≡ None)

abbrev pub Outcome : List Text → Type 0
Outcome ws = Calls ws ⊎ Refuses ws

pub both : (a b : Bool) → (a && b) ≡ true → (a ≡ true) × (b ≡ true)
both true b e = (refl, e)
both false b e = absurd (true≢false (sym e))

-- a subcommand and what a parse of it comes to
abbrev Faults : Text → Shape → Type 0
Faults n l = (ws : List Text) → fault_of program (n ∷ ws) ≡ level_fault l [] nothing_held ws false []

abbrev Rows : Text → Shape → Type 0
Rows n l = (ws : List Text) → subcommand_of program (n ∷ ws) ≡ Some (n, rows_after l.rules [] ws)

-- four operands are too many for each
none_of_four : (n a b c d : Text) (rest : List Text) → call_of (n ∷ a ∷ b ∷ c ∷ d ∷ rest) ≡ None
none_of_four n a b c d rest = refl

-- words that pass are what a subcommand's operands are
passes : (n : Text) (ws : List Text) (l : Shape) (rs : List Row) → Faults n l → Rows n l → level_fault l [] nothing_held ws false [] ≡ [] → rows_after l.rules [] ws ≡ rs
    → call_of (n ∷ ws) ≡ Some (n, operands_in rs) → Outcome (n ∷ ws)
passes n ws l rs fault rows none found call = inl (n, rs, fault ws ∙ none, rows ws ∙ ap (λ (r : List Row). Some (n, r)) found, call)

fails : (n : Text) (ws : List Text) (l : Shape) → Faults n l → is_empty (level_fault l [] nothing_held ws false []) ≡ false → call_of (n ∷ ws) ≡ None → Outcome (n ∷ ws)
fails n ws l fault some call = inr (ap is_empty (fault ws) ∙ some, call)

module _ (n : Text) (fault : Faults n (leaf_two n)) (rows : Rows n (leaf_two n)) (two : takes_two n ≡ true) (three : takes_three n ≡ false) where
  of_two_named : (ws : List Text) → list_all is_name ws ≡ true → Outcome (n ∷ ws)
  of_two_named [] ok = fails n [] (leaf_two n) fault (two-none_fails n) refl
  of_two_named (a ∷ []) ok = let p = both (is_name a) true ok in fails n (a ∷ []) (leaf_two n) fault (two-one_fails n a p.0) refl
  of_two_named (a ∷ b ∷ []) ok =
      let p = both (is_name a) (is_name b && true) ok in
      let q = both (is_name b) true p.1 in
      passes n (a ∷ b ∷ []) (leaf_two n) (rows_two a b) fault rows (two-pass n a b p.0 q.0) (two-rows n a b p.0 q.0) (rw two refl)
  of_two_named (a ∷ b ∷ c ∷ []) ok =
      let p = both (is_name a) (is_name b && (is_name c && true)) ok in
      let q = both (is_name b) (is_name c && true) p.1 in
      let r = both (is_name c) true q.1 in
      fails n (a ∷ b ∷ c ∷ []) (leaf_two n) fault (two-three_fail n a b c [] p.0 q.0 r.0) (rw three refl)
  of_two_named (a ∷ b ∷ c ∷ d ∷ rest) ok =
      let p = both (is_name a) (list_all is_name (b ∷ c ∷ d ∷ rest)) ok in
      let q = both (is_name b) (list_all is_name (c ∷ d ∷ rest)) p.1 in
      let r = both (is_name c) (list_all is_name (d ∷ rest)) q.1 in
      fails n (a ∷ b ∷ c ∷ d ∷ rest) (leaf_two n) fault (two-three_fail n a b c (d ∷ rest) p.0 q.0 r.0) refl

module _ (n : Text) (fault : Faults n (leaf_three n)) (rows : Rows n (leaf_three n)) (three : takes_three n ≡ true)
    (at_two : (a b : Text) → is_name a ≡ true → is_name b ≡ true → Outcome (n ∷ a ∷ b ∷ [])) where
  of_three_named : (ws : List Text) → list_all is_name ws ≡ true → Outcome (n ∷ ws)
  of_three_named [] ok = fails n [] (leaf_three n) fault (none_fails n) refl
  of_three_named (a ∷ []) ok = let p = both (is_name a) true ok in fails n (a ∷ []) (leaf_three n) fault (one_fails n a p.0) refl
  of_three_named (a ∷ b ∷ []) ok =
      let p = both (is_name a) (is_name b && true) ok in
      let q = both (is_name b) true p.1 in
      at_two a b p.0 q.0
  of_three_named (a ∷ b ∷ c ∷ []) ok =
      let p = both (is_name a) (is_name b && (is_name c && true)) ok in
      let q = both (is_name b) (is_name c && true) p.1 in
      let r = both (is_name c) true q.1 in
      passes n (a ∷ b ∷ c ∷ []) (leaf_three n) (rows_three a b c) fault rows (three_pass n a b c p.0 q.0 r.0) (rows_of_three n a b c p.0 q.0 r.0) (rw three refl)
  of_three_named (a ∷ b ∷ c ∷ d ∷ rest) ok =
      let p = both (is_name a) (list_all is_name (b ∷ c ∷ d ∷ rest)) ok in
      let q = both (is_name b) (list_all is_name (c ∷ d ∷ rest)) p.1 in
      let r = both (is_name c) (list_all is_name (d ∷ rest)) q.1 in
      let s = both (is_name d) (list_all is_name rest) r.1 in
      fails n (a ∷ b ∷ c ∷ d ∷ rest) (leaf_three n) fault (four_fail n a b c d rest p.0 q.0 r.0 s.0) refl

module _ (n : Text) (fault : Faults n (leaf_all n)) (rows : Rows n (leaf_all n)) (two : takes_two n ≡ false) (three : takes_three n ≡ true) where
  of_all_named : (ws : List Text) → list_all is_name ws ≡ true → Outcome (n ∷ ws)
  of_all_named [] ok = fails n [] (leaf_all n) fault (all-none_fails n) refl
  of_all_named (a ∷ []) ok = let p = both (is_name a) true ok in fails n (a ∷ []) (leaf_all n) fault (all-one_fails n a p.0) refl
  of_all_named (a ∷ b ∷ []) ok =
      let p = both (is_name a) (is_name b && true) ok in
      let q = both (is_name b) true p.1 in
      fails n (a ∷ b ∷ []) (leaf_all n) fault (all-two_fail n a b p.0 q.0) (rw two refl)
  of_all_named (a ∷ b ∷ c ∷ []) ok =
      let p = both (is_name a) (is_name b && (is_name c && true)) ok in
      let q = both (is_name b) (is_name c && true) p.1 in
      let r = both (is_name c) true q.1 in
      passes n (a ∷ b ∷ c ∷ []) (leaf_all n) (rows_three a b c) fault rows (all-pass n a b c p.0 q.0 r.0) (all-rows n a b c p.0 q.0 r.0) (rw three refl)
  of_all_named (a ∷ b ∷ c ∷ d ∷ rest) ok =
      let p = both (is_name a) (list_all is_name (b ∷ c ∷ d ∷ rest)) ok in
      let q = both (is_name b) (list_all is_name (c ∷ d ∷ rest)) p.1 in
      let r = both (is_name c) (list_all is_name (d ∷ rest)) q.1 in
      let s = both (is_name d) (list_all is_name rest) r.1 in
      fails n (a ∷ b ∷ c ∷ d ∷ rest) (leaf_all n) fault (all-four_fail n a b c d rest p.0 q.0 r.0 s.0) refl

-- two operands, where the third is left out
two_do : (n : Text) → Faults n (leaf_three n) → Rows n (leaf_three n) → takes_two n ≡ true → (a b : Text) → is_name a ≡ true → is_name b ≡ true → Outcome (n ∷ a ∷ b ∷ [])
two_do n fault rows two a b ok ok_b =
    passes n (a ∷ b ∷ []) (leaf_three n) (rows_two a b) fault rows (two_pass n a b ok ok_b) (rows_of_two n a b ok ok_b) (rw two refl)

abbrev At : Text → Type 0
At w = (ws : List Text) → list_all is_name ws ≡ true → Outcome (w ∷ ws)

abbrev run : Text
run = codes "run"

abbrev make : Text
make = codes "make"

of_run : At run
unfolding walked
of_run =
    let fault : Faults run (leaf_three run) = named_fault run (leaf_three run) refl refl refl (λ ws. refl) in
    let rows : Rows run (leaf_three run) = named_rows run (leaf_three run) refl refl refl (λ ws. refl) in
    of_three_named run fault rows refl (two_do run fault rows refl)

abbrev dump : Text
dump = codes "dump"

abbrev replay : Text
replay = codes "replay"

of_dump : At dump
unfolding walked
of_dump = of_all_named dump (named_fault dump (leaf_all dump) refl refl refl (λ ws. refl)) (named_rows dump (leaf_all dump) refl refl refl (λ ws. refl)) refl refl

of_replay : At replay
unfolding walked
of_replay = of_all_named replay (named_fault replay (leaf_all replay) refl refl refl (λ ws. refl)) (named_rows replay (leaf_all replay) refl refl refl (λ ws. refl)) refl refl

abbrev check : Text
check = codes "check"

of_check : At check
unfolding walked
of_check = of_all_named check (named_fault check (leaf_all check) refl refl refl (λ ws. refl)) (named_rows check (leaf_all check) refl refl refl (λ ws. refl)) refl refl

abbrev mesh : Text
mesh = codes "mesh"

of_mesh : At mesh
unfolding walked
of_mesh = of_all_named mesh (named_fault mesh (leaf_all mesh) refl refl refl (λ ws. refl)) (named_rows mesh (leaf_all mesh) refl refl refl (λ ws. refl)) refl refl

abbrev fan : Text
fan = codes "fan"

of_fan : At fan
unfolding walked
of_fan = of_two_named fan (named_fault fan (leaf_two fan) refl refl refl (λ ws. refl)) (named_rows fan (leaf_two fan) refl refl refl (λ ws. refl)) refl refl

of_make : At make
unfolding walked
of_make = of_two_named make (named_fault make (leaf_two make) refl refl refl (λ ws. refl)) (named_rows make (leaf_two make) refl refl refl (λ ws. refl)) refl refl

none_called : (w : Text) (ws : List Text) → takes_two w ≡ false → takes_three w ≡ false → call_of (w ∷ ws) ≡ None
none_called w [] e f = refl
none_called w (a ∷ []) e f = refl
none_called w (a ∷ b ∷ []) e f = rw e refl
none_called w (a ∷ b ∷ c ∷ []) e f = rw f refl
none_called w (a ∷ b ∷ c ∷ d ∷ rest) e f = refl

of_first : (w : Text) (ws : List Text) (r m f c d p b : Bool) → bytes_eq run w ≡ r → bytes_eq make w ≡ m → bytes_eq fan w ≡ f → bytes_eq check w ≡ c → bytes_eq dump w ≡ d → bytes_eq replay w ≡ p → bytes_eq mesh w ≡ b → is_name w ≡ true
    → list_all is_name ws ≡ true → Outcome (w ∷ ws)
of_first w ws true m n c d p b a e f k g h i ok all = subst At ((bytes_eq-Decides run w).0 a) of_run ws all
of_first w ws false true n c d p b a e f k g h i ok all = subst At ((bytes_eq-Decides make w).0 e) of_make ws all
of_first w ws false false true c d p b a e f k g h i ok all = subst At ((bytes_eq-Decides fan w).0 f) of_fan ws all
of_first w ws false false false true d p b a e f k g h i ok all = subst At ((bytes_eq-Decides check w).0 k) of_check ws all
of_first w ws false false false false true p b a e f k g h i ok all = subst At ((bytes_eq-Decides dump w).0 g) of_dump ws all
of_first w ws false false false false false true b a e f k g h i ok all = subst At ((bytes_eq-Decides replay w).0 h) of_replay ws all
of_first w ws false false false false false false true a e f k g h i ok all = subst At ((bytes_eq-Decides mesh w).0 i) of_mesh ws all
of_first w ws false false false false false false false a e f k g h i ok all =
    let other : is_command w ≡ false = rw (a, e, f, k, g, h, i) refl in
    let two : takes_two w ≡ false = rw (a, e, f) refl in
    let three : takes_three w ≡ false = rw (a, k, g, h, i) refl in
    inr (unknown_fails w ws ok other, none_called w ws two three)

pub outcome_of : (ws : List Text) → list_all is_name ws ≡ true → Outcome ws
outcome_of [] ok = inr (nothing_fails, refl)
outcome_of (w ∷ ws) ok =
    let p = both (is_name w) (list_all is_name ws) ok in
    of_first w ws (bytes_eq run w) (bytes_eq make w) (bytes_eq fan w) (bytes_eq check w) (bytes_eq dump w) (bytes_eq replay w) (bytes_eq mesh w) refl refl refl refl refl refl refl p.0 p.1
