-- Lines that are told one behind the other.
use Rattle.std.proofs.Common.{◌≡◌, ℕ, ◌+◌, ◌<◌, ◌≤◌, List, [], ◌∷◌, ◌++◌, Bool, true, false, Option, Some, None, get_or, length, take, drop, refl, sym, ap, subst, ◌∙◌, append_assoc, append-nil}
use Rattle.std.proofs.lemmas.List.{take-append-drop, take_all, take_more}
use Rattle.plan_types.specs.declared.machine.Machine.{Machine}
use Rattle.report_text.specs.declared.line.ReportLine.{ReportLine}
use Rattle.report_text.specs.Text.{line_text, report_text}
use Rattle.report_text.specs.declared.write.WriteStop.{WriteStop}
use Rattle.report_text.specs.Written.{WritesAll, WritesFront}
use Rattle.report_text.proofs.Writing.{report_text-append, report_text-line}
use Rattle.session_run.specs.Counts.{with_pulse, with_pulses}
use Rattle.session_run.specs.Tells.{WereTold, StopsWriting, Tells, is_pulse, unless_pulse, without_pulses}

writes-nil : (w : Option (List ℕ)) → WritesAll w w []
writes-nil w = λ before e. e ∙ ap Some (sym (append-nil before))

all-all : (w v u : Option (List ℕ)) (s t : List ℕ) → WritesAll w v s → WritesAll v u t → WritesAll w u (s ++ t)
all-all w v u s t one two = λ before e. two (before ++ s) (one before e) ∙ ap Some (append_assoc before s t)

all-then-front : (w v u : Option (List ℕ)) (s t : List ℕ) → WritesAll w v s → WritesFront v u t → WritesFront w u (s ++ t)
all-then-front w v u s t one two = λ before e.
    let z = two (before ++ s) (one before e) in
    (s ++ z.0, z.1 ∙ ap Some (append_assoc before s z.0), (z.2.0, ap (λ x. s ++ x) z.2.1 ∙ sym (append_assoc s z.0 z.2.0)))

unless-more : (b : Bool) (l : ReportLine) (p q : List ReportLine) → unless_pulse b l (p ++ q) ≡ unless_pulse b l p ++ q
unless-more true l p q = refl
unless-more false l p q = refl

pub without-more : (p q : List ReportLine) → without_pulses (p ++ q) ≡ without_pulses p ++ without_pulses q
without-more [] q = refl
without-more (l ∷ p) q = ap (λ x. unless_pulse (is_pulse l) l x) (without-more p q) ∙ unless-more (is_pulse l) l (without_pulses p) (without_pulses q)

-- the pulses of lines are counted one line behind the other
pub counted-append : (p q : List ReportLine) (counts : List ℕ) → with_pulses (p ++ q) counts ≡ with_pulses q (with_pulses p counts)
counted-append [] q counts = refl
counted-append (l ∷ p) q counts = counted-append p q (with_pulse l counts)

pub tells-nil : (m : Machine) (u : Option WriteStop) (w : Option (List ℕ)) (f : ℕ) (k : List ReportLine) (c : List ℕ) → Tells m [] u w f k c u w f k c
tells-nil m (Some s) w f k c = (refl, refl, refl, refl, refl)
tells-nil m None w f k c = (writes-nil w, refl, sym (append-nil k), refl)

stops-from : (s : WriteStop) (f g h : ℕ) → g ≡ f → StopsWriting s g h → StopsWriting s f h
stops-from s f g h e d = subst (λ x. StopsWriting s x h) e d

stops-to : (s : WriteStop) (f g h : ℕ) → h ≡ g → StopsWriting s f g → StopsWriting s f h
stops-to s f g h e d = subst (λ x. StopsWriting s f x) (sym e) d

kept-more : (k l n p q : List ReportLine) → l ≡ k ++ without_pulses p → n ≡ l ++ without_pulses q → n ≡ k ++ without_pulses (p ++ q)
kept-more k l n p q one two =
    two ∙ ap (λ x. x ++ without_pulses q) one ∙ append_assoc k (without_pulses p) (without_pulses q) ∙ ap (λ x. k ++ x) (sym (without-more p q))

counted-more : (c d e : List ℕ) (p q : List ReportLine) → d ≡ with_pulses p c → e ≡ with_pulses q d → e ≡ with_pulses (p ++ q) c
counted-more c d e p q one two = two ∙ ap (λ x. with_pulses q x) one ∙ sym (counted-append p q c)

pub tells-more : (m : Machine) (p q : List ReportLine) (u : Option WriteStop) (w : Option (List ℕ)) (f : ℕ) (k : List ReportLine) (c : List ℕ) (v : Option WriteStop) (x : Option (List ℕ)) (g : ℕ) (l : List ReportLine) (d : List ℕ)
    (z : Option WriteStop) (y : Option (List ℕ)) (h : ℕ) (n : List ReportLine) (e : List ℕ) → Tells m p u w f k c v x g l d → Tells m q v x g l d z y h n e → Tells m (p ++ q) u w f k c z y h n e
tells-more m p q (Some s) w f k c None x g l d z y h n e one two = (let a = one.0 in cc)
tells-more m p q (Some s) w f k c (Some r) x g l d z y h n e one two = (two.0 ∙ one.0, two.1 ∙ one.1, two.2 ∙ one.2, two.3 ∙ one.3, two.4 ∙ one.4)
tells-more m p q None w f k c None x g l d None y h n e one two =
    (subst (λ t. WritesAll w y t) (sym (report_text-append m p q)) (all-all w x y (report_text m p) (report_text m q) one.0 two.0), two.1 ∙ one.1, kept-more k l n p q one.2 two.2, counted-more c d e p q one.3 two.3)
tells-more m p q None w f k c None x g l d (Some r) y h n e one two =
    let t = two.0 in (
      record {
        said = p ++ t.said;
        rest = t.rest;
        are = ap (λ s. p ++ s) t.are ∙ sym (append_assoc p t.said t.rest);
        keeps = kept-more k l n p t.said one.2 t.keeps;
        counted = counted-more c d e p t.said one.3 t.counted;
        writes = subst (λ s. WritesFront w y s) (sym (report_text-append m p t.said)) (all-then-front w x y (report_text m p) (report_text m t.said) one.0 t.writes);
      },
      stops-from r f g h one.1 two.1,
    )
tells-more m p q None w f k c (Some r) x g l d None y h n e one two = (let a = two.0 in cc)
tells-more m p q None w f k c (Some r) x g l d (Some t) y h n e one two =
    let b = one.0 in let same : t ≡ r = (let a = two.0 in cc) in (
      record {
        said = b.said;
        rest = b.rest ++ q;
        are = ap (λ s. s ++ q) b.are ∙ append_assoc b.said b.rest q;
        keeps = two.3 ∙ b.keeps;
        counted = two.4 ∙ b.counted;
        writes = subst (λ s. WritesFront w s (report_text m b.said)) (sym two.1) b.writes;
      },
      subst (λ s. StopsWriting s f h) (sym same) (stops-to r f g h two.2 one.1),
    )

-- the first lines and one more
pub take-more : (lines : List ReportLine) (i : ℕ) (d : ReportLine) → i < length lines → take (i + 1) lines ≡ take i lines ++ get_or lines i d ∷ []
take-more lines i d h = take_more lines i d h

pub kept-one : (k l n lines : List ReportLine) (i : ℕ) (d : ReportLine) → i < length lines → l ≡ k ++ without_pulses (take i lines) → n ≡ l ++ without_pulses (get_or lines i d ∷ []) → n ≡ k ++ without_pulses (take (i + 1) lines)
kept-one k l n lines i d h one two =
    kept-more k l n (take i lines) (get_or lines i d ∷ []) one two ∙ ap (λ t. k ++ without_pulses t) (sym (take-more lines i d h))

pub counted-one : (c d e : List ℕ) (lines : List ReportLine) (i : ℕ) (l : ReportLine) → i < length lines → d ≡ with_pulses (take i lines) c → e ≡ with_pulse (get_or lines i l) d → e ≡ with_pulses (take (i + 1) lines) c
counted-one c d e lines i l h one two =
    counted-more c d e (take i lines) (get_or lines i l ∷ []) one two ∙ ap (λ t. with_pulses t c) (sym (take-more lines i l h))

-- the first lines were told, of which nothing was written
pub said-unwritten : (m : Machine) (lines : List ReportLine) (i : ℕ) (w : Option (List ℕ)) (k n : List ReportLine) (c e : List ℕ) → n ≡ k ++ without_pulses (take i lines) → e ≡ with_pulses (take i lines) c → WereTold m lines w w k c n e
said-unwritten m lines i w k n c e keeps counts = record {
  said = take i lines;
  rest = drop i lines;
  are = sym (take-append-drop i lines);
  keeps = keeps;
  counted = counts;
  writes = λ before is. ([], is ∙ ap Some (sym (append-nil before)), (report_text m (take i lines), refl));
}

-- all lines were told, whose text or its front was written
pub said-all : (m : Machine) (lines : List ReportLine) (old new : Option (List ℕ)) (text : List ℕ) (k n : List ReportLine) (c e : List ℕ) → text ≡ report_text m lines → WritesFront old new text → n ≡ k ++ without_pulses lines → e ≡ with_pulses lines c → WereTold m lines old new k c n e
said-all m lines old new text k n c e is front keeps counts = record {
  said = lines;
  rest = [];
  are = sym (append-nil lines);
  keeps = keeps;
  counted = counts;
  writes = subst (λ t. WritesFront old new t) is front;
}

-- the text of one more line
pub text-one : (m : Machine) (a b d : List ℕ) (lines : List ReportLine) (i : ℕ) (l : ReportLine) → i < length lines → b ≡ a ++ report_text m (take i lines) → d ≡ b ++ line_text m (get_or lines i l) → d ≡ a ++ report_text m (take (i + 1) lines)
text-one m a b d lines i l h one two =
    two ∙ ap (λ t. t ++ line_text m (get_or lines i l)) one ∙ append_assoc a (report_text m (take i lines)) (line_text m (get_or lines i l)) ∙ ap (λ t. a ++ t) (sym (report_text-line m (take i lines) (get_or lines i l)))
    ∙ ap (λ ls. a ++ report_text m ls) (sym (take-more lines i l h))

pub text-whole : (m : Machine) (a b : List ℕ) (lines : List ReportLine) (i : ℕ) → length lines ≤ i → b ≡ a ++ report_text m (take i lines) → b ≡ a ++ report_text m lines
text-whole m a b lines i h one = one ∙ ap (λ ls. a ++ report_text m ls) (take_all i lines h)

pub kept-whole : (k l lines : List ReportLine) (i : ℕ) → length lines ≤ i → l ≡ k ++ without_pulses (take i lines) → l ≡ k ++ without_pulses lines
kept-whole k l lines i h one = one ∙ ap (λ t. k ++ without_pulses t) (take_all i lines h)

pub counted-whole : (c d : List ℕ) (lines : List ReportLine) (i : ℕ) → length lines ≤ i → d ≡ with_pulses (take i lines) c → d ≡ with_pulses lines c
counted-whole c d lines i h one = one ∙ ap (λ t. with_pulses t c) (take_all i lines h)

-- nothing was told
pub tells-none : (m : Machine) (u v : Option WriteStop) (w : Option (List ℕ)) (f : ℕ) (k l : List ReportLine) (c d : List ℕ) → v ≡ u → l ≡ k → d ≡ c → Tells m [] u w f k c v w f l d
tells-none m u v w f k l c d same kept counts =
    subst (λ (x : Option WriteStop × List ReportLine × List ℕ). Tells m [] u w f k c x.0 w f x.1 x.2) (λ i. (sym same i, sym kept i, sym counts i)) (tells-nil m u w f k c)
