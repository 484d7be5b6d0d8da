-- How what was written grows, piece by piece and line by line.
use Rattle.std.proofs.Common.{◌≡◌, ℕ, ◌+◌, ◌<◌, ◌≤◌, List, [], ◌∷◌, ◌++◌, Option, Some, take, drop, length, refl, ap, sym, ◌∙◌, append_assoc, append-nil, arith, add-one, drop-cons}
use Rattle.std.proofs.Common.{subst, get_or}
use Rattle.std.proofs.lemmas.List.{take-append-drop, take_more, take_all}
use Rattle.std.proofs.lemmas.Grind.{common_steps}
use Rattle.plan_types.specs.declared.machine.Machine.{Machine}
use Rattle.report_text.specs.declared.line.ReportLine.{ReportLine}
use Rattle.report_text.specs.Text.{line_text, report_text}
use Rattle.report_text.specs.Written.{WritesAll, WritesFront}

-- what is shown of a piece, with so much of it left
abbrev pub Shows : Option (List ℕ) → Option (List ℕ) → List ℕ → List ℕ → Type 0
Shows old new piece rest =
    (before : List ℕ) → old ≡ Some before → (front : List ℕ) × (new ≡ Some (before ++ front)) × (piece ≡ front ++ rest)

halves : (n : ℕ) (rest : List ℕ) → rest ≡ take n rest ++ drop n rest
halves n rest = grind (arith, common_steps)

pub shows-more : (old mid new : Option (List ℕ)) (piece rest left : List ℕ) (n : ℕ) → Shows old mid piece rest → ((bytes : List ℕ) → mid ≡ Some bytes → new ≡ Some (bytes ++ take n rest)) → left ≡ drop n rest → Shows old new piece left
shows-more old mid new piece rest left n shown step is = λ before e.
    let s = shown before e in
    let now = step (before ++ s.0) s.1 in
    let whole : piece ≡ (s.0 ++ take n rest) ++ left = s.2 ∙ ap (λ t. s.0 ++ t) (halves n rest) ∙ sym (append_assoc s.0 (take n rest) (drop n rest)) ∙ ap (λ t. (s.0 ++ take n rest) ++ t) (sym is) in
    (s.0 ++ take n rest, now ∙ ap Some (append_assoc before s.0 (take n rest)), whole)

pub shows-all : (old new : Option (List ℕ)) (piece rest : List ℕ) → length rest ≡ 0 → Shows old new piece rest → WritesAll old new piece
shows-all old new piece [] e shown = λ before b.
    let s = shown before b in
    s.1 ∙ ap (λ t. Some (before ++ t)) (sym (s.2 ∙ append-nil s.0))
shows-all old new piece (x ∷ rest) e shown = absurd (omega arith)

pub shows-front : (old new : Option (List ℕ)) (piece rest : List ℕ) → Shows old new piece rest → WritesFront old new piece
shows-front old new piece rest shown = λ before b. let s = shown before b in (s.0, s.1, (rest, s.2))

-- the text of some lines and one more
pub report_text-line : (m : Machine) (lines : List ReportLine) (l : ReportLine) → report_text m (lines ++ l ∷ []) ≡ report_text m lines ++ line_text m l
report_text-line m [] l = append-nil (line_text m l)
report_text-line m (k ∷ lines) l = ap (λ t. line_text m k ++ t) (report_text-line m lines l) ∙ sym (append_assoc (line_text m k) (report_text m lines) (line_text m l))

pub report_text-append : (m : Machine) (lines more : List ReportLine) → report_text m (lines ++ more) ≡ report_text m lines ++ report_text m more
report_text-append m [] more = refl
report_text-append m (k ∷ lines) more = ap (λ t. line_text m k ++ t) (report_text-append m lines more) ∙ sym (append_assoc (line_text m k) (report_text m lines) (report_text m more))

-- a whole line behind others
pub lines-more : (m : Machine) (old mid new : Option (List ℕ)) (lines : List ReportLine) (l : ReportLine) → WritesAll old mid (report_text m lines) → WritesAll mid new (line_text m l) → WritesAll old new (report_text m (lines ++ l ∷ []))
lines-more m old mid new lines l shown step = λ before b.
    step (before ++ report_text m lines) (shown before b) ∙ ap Some (append_assoc before (report_text m lines) (line_text m l)) ∙ ap (λ t. Some (before ++ t)) (sym (report_text-line m lines l))

-- the front of a line behind others
pub lines-front : (m : Machine) (old mid new : Option (List ℕ)) (lines : List ReportLine) (l : ReportLine) (more : List ReportLine) → WritesAll old mid (report_text m lines) → WritesFront mid new (line_text m l) → WritesFront old new (report_text m (lines ++ l ∷ more))
lines-front m old mid new lines l more shown step = λ before b.
    let s = step (before ++ report_text m lines) (shown before b) in
    let t = report_text-append m lines (l ∷ more) in
    let rest = s.2.0 in
    let line : line_text m l ≡ s.0 ++ rest = s.2.1 in
    let whole : report_text m (lines ++ l ∷ more) ≡ (report_text m lines ++ s.0) ++ (rest ++ report_text m more) =
    t ∙ ap (λ u. report_text m lines ++ (u ++ report_text m more)) line ∙ ap (λ u. report_text m lines ++ u) (append_assoc s.0 rest (report_text m more)) ∙ sym (append_assoc (report_text m lines) s.0 (rest ++ report_text m more)) in
    (report_text m lines ++ s.0, s.1 ∙ ap Some (append_assoc before (report_text m lines) s.0), (rest ++ report_text m more, whole))

pub no-more : (m : Machine) (old mid : Option (List ℕ)) (lines more : List ReportLine) → WritesAll old mid (report_text m lines) → WritesFront old mid (report_text m (lines ++ more))
no-more m old mid lines more shown = λ before b.
    (report_text m lines, shown before b, (report_text m more, report_text-append m lines more))

split-at : (lines : List ReportLine) (i : ℕ) (d : ReportLine) → i < length lines → take i lines ++ get_or lines i d ∷ drop (i + 1) lines ≡ lines
split-at lines i d h = rw (add-one, ← drop-cons lines i d) (take-append-drop i lines)

pub lines-front-at : (m : Machine) (old mid new : Option (List ℕ)) (lines : List ReportLine) (i : ℕ) (d : ReportLine) → i < length lines → WritesAll old mid (report_text m (take i lines)) → WritesFront mid new (line_text m (get_or lines i d)) → WritesFront old new (report_text m lines)
lines-front-at m old mid new lines i d h shown step =
    let F : List ReportLine → Type 0 = λ ls. WritesFront old new (report_text m ls) in
    subst F (split-at lines i d h) (lines-front m old mid new (take i lines) (get_or lines i d) (drop (i + 1) lines) shown step)

pub lines-more-at : (m : Machine) (old mid new : Option (List ℕ)) (lines : List ReportLine) (i : ℕ) (d : ReportLine) → i < length lines → WritesAll old mid (report_text m (take i lines)) → WritesAll mid new (line_text m (get_or lines i d)) → WritesAll old new (report_text m (take (i + 1) lines))
lines-more-at m old mid new lines i d h shown step =
    let F : List ReportLine → Type 0 = λ ls. WritesAll old new (report_text m ls) in
    subst F (sym (take_more lines i d h)) (lines-more m old mid new (take i lines) (get_or lines i d) shown step)

pub lines-whole : (m : Machine) (old mid : Option (List ℕ)) (lines : List ReportLine) (i : ℕ) → length lines ≤ i → WritesAll old mid (report_text m (take i lines)) → WritesAll old mid (report_text m lines)
lines-whole m old mid lines i h shown =
    let F : List ReportLine → Type 0 = λ ls. WritesAll old mid (report_text m ls) in
    subst F (take_all i lines h) shown

pub all-front : (old new : Option (List ℕ)) (text : List ℕ) → WritesAll old new text → WritesFront old new text
all-front old new text all = λ before b. (text, all before b, ([], sym (append-nil text)))
