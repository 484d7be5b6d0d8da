-- The turns of the reactor in a whole run took the notes of its planner, as the planner took its words.
use Rattle.std.proofs.Common.{◌≡◌, ℕ, zero, suc, ◌+◌, ◌-◌, ◌<◌, ◌≤◌, Bool, true, false, List, [], ◌∷◌, ◌++◌, length, map, append_assoc, refl, ap, sym, ◌∙◌, subst, arith, inl, inr, rules}
use Rattle.laws_board.proofs.Names.{Machine, NoteNews, WordMsg, Switch, Came, GoesOn, Started, MotionTurn, ReactorTurn, gather, item}
use Rattle.msg_code.specs.declared.talk.NoteNews.TheVariants as news
use Rattle.motion_work.specs.Further.{AreFurther}
use Rattle.motion_work.specs.Puts.{ArePut, IsReadNews}
use Rattle.motion_work.specs.Told.{tells_homed}
use Rattle.session_work.specs.Bares.{bare_word}
use Rattle.session_work.specs.Leads.{each_turn, last_words, still_word}
use Rattle.session_run.specs.Boards.{AreReactorTurns, came_from, came_in}
use Rattle.laws_board.specs.plans.Lines.{TookEach, TookNotes}
use Rattle.laws_board.specs.plans.Planned.{Plans, puts_of, words_in}
use Rattle.laws_board.proofs.plans.Heard.{heard_all}
use Rattle.laws_run.proofs.run_headline.Words.{gather_words}
use Rattle.laws_run.proofs.run_headline.Facts.{came_long}
use Rattle.laws_homing.specs.home_runs.Words.{BeginsNone}
use Rattle.laws_homing.specs.home_plans.Notes.{CameNotes, IsNoteOf}
use Rattle.laws_homing.specs.home_parts.Answers.{AreOfTurns, IsPlannedBy}
use Rattle.laws_homing.proofs.home_parts.Taken.{item_left, item_right}

-- the notes
read_none : (m : Machine) (text : List ℕ) (ns : List NoteNews) → IsReadNews m text ns → BeginsNone ns
read_none m text ns (inl e) = subst BeginsNone (sym e) tt
read_none m text ns (inr e) = subst BeginsNone (sym e) tt

further_none : (k : ℕ) (ns : List NoteNews) → AreFurther k ns → BeginsNone ns
further_none k [] h = tt
further_none k (news.Line board line from ∷ ns) h = further_none k ns h.1
further_none k (news.Start section kind turn last moving ∷ ns) h = absurd h
further_none k (news.Done section turn ∷ ns) h = absurd h
further_none k (news.Read end sections ∷ ns) h = absurd h

none_both : (xs ys : List NoteNews) → BeginsNone xs → BeginsNone ys → BeginsNone (xs ++ ys)
none_both [] ys a b = b
none_both (news.Line board line from ∷ xs) ys a b = none_both xs ys a b
none_both (news.Start section kind turn last moving ∷ xs) ys a b = absurd a
none_both (news.Done section turn ∷ xs) ys a b = none_both xs ys a b
none_both (news.Read end sections ∷ xs) ys a b = none_both xs ys a b

notes_from : (m : Machine) (text : List ℕ) (begun : List Started) (k : ℕ) (made : List MotionTurn) (before : List Came) (rs : List ReactorTurn) → length before ≡ suc k → ArePut m text begun k (puts_of made) → TookEach (map (λ t. t.note) made) rs
    → CameNotes begun before → CameNotes begun (came_from before rs)
notes_from m text begun k made before [] at put took notes = notes
notes_from m text begun k [] before (r ∷ rs) at put took notes = absurd took
notes_from m text begun k (d ∷ made) before (r ∷ rs) at put took notes =
    let one = put.0 in
    let Of : ℕ → Type 0 = λ n. IsNoteOf begun n r.note in
    let here : IsNoteOf begun (suc k) r.note = (d.note, one.read ++ one.further, took.0, one.news_are, none_both one.read one.further (read_none m text one.read one.is_read) (further_none k one.further one.are_further)) in
    let e : k + 1 ≡ suc k = omega arith in
    let Put_at : ℕ → Type 0 = λ n. ArePut m text begun n (puts_of made) in
    notes_from m text begun (suc k) made (came_in r ∷ before) rs (ap suc at) (subst Put_at e put.1) took.1 (subst Of (sym at) here, notes)

pub all_notes : (m : Machine) (text : List ℕ) (begun : List Started) (made : List MotionTurn) (first : ReactorTurn) (rest : List ReactorTurn) → ArePut m text begun 0 (puts_of made) → TookNotes (map (λ t. t.note) made) (first ∷ rest)
    → CameNotes begun (came_from [] (first ∷ rest))
all_notes m text begun made first rest put took = notes_from m text begun 0 made (came_in first ∷ []) rest refl put took.1 (took.0, tt)

-- turns that go on
pub all_on : (m : Machine) (switches : List Switch) (before : List Came) (rs : List ReactorTurn) → AreReactorTurns m switches before rs → GoesOn m switches before → GoesOn m switches (came_from before rs)
all_on m switches before [] h g = g
all_on m switches before (r ∷ rs) h g = all_on m switches (came_in r ∷ before) rs h.1 (h.0.goes_on, g)

-- items
item_front : {A : Type 0} (j : ℕ) (us vs : List A) (x : A) → item j us ≡ x ∷ [] → item j (us ++ vs) ≡ x ∷ []
item_front j [] vs x e = absurd (let f : [] ≡ x ∷ [] = no_item j e in cc)
  where
    no_item : (i : ℕ) → item i [] ≡ x ∷ [] → [] ≡ x ∷ []
    no_item zero f = f
    no_item (suc i) f = f
item_front zero (u ∷ us) vs x e = e
item_front (suc j) (u ∷ us) vs x e = item_front j us vs x e

-- the words
abbrev Said : List ReactorTurn → List WordMsg
Said rs = gather (λ (t : ReactorTurn). t.word ∷ []) rs

said_long : (rs : List ReactorTurn) → length (Said rs) ≡ length rs
said_long [] = refl
said_long (r ∷ rs) = ap suc (said_long rs)

one_item : (x y : WordMsg) → x ∷ [] ≡ y ∷ [] → x ≡ y
one_item x y e = cc

words_from : (m : Machine) (switches : List Switch) (words : List WordMsg) (k : ℕ) (before : List Came) (rs : List ReactorTurn) → length before ≡ k → AreReactorTurns m switches before rs
    → ((j : ℕ) (w : WordMsg) → j < length rs → item (k + j) words ≡ w ∷ [] → item j (Said rs) ≡ w ∷ []) → AreOfTurns m switches words before → AreOfTurns m switches words (came_from before rs)
words_from m switches words k before [] at h f a = a
words_from m switches words k before (r ∷ rs) at h f a =
    let e : k + 0 ≡ length before = omega (arith, at) in
    words_from m switches words (suc k) (came_in r ∷ before) rs (ap suc at) h.1
    (λ j w low is.
    let same : k + suc j ≡ suc k + j = omega arith in
    f (suc j) w (omega (arith, low)) (ap (λ n. item n words) same ∙ is))
    ((λ w is. sym (one_item r.word w (f 0 w (omega arith) (ap (λ n. item n words) e ∙ is))) ∙ h.0.word_is), a)

silent_word : (k : ℕ) (end : Bool) (w : WordMsg) → bare_word k end ≡ w → tells_homed w.news ≡ true → ⊥
silent_word k end w e t = let At : WordMsg → Type 0 = λ x. tells_homed x.news ≡ true in let f : false ≡ true = subst At (sym e) t in cc

no_words : (j : ℕ) (w : WordMsg) → item j [] ≡ w ∷ [] → ⊥
no_words zero w e = cc
no_words (suc j) w e = cc

last_silent : (k l n j : ℕ) (w : WordMsg) → item j (each_turn still_word k n ++ bare_word l true ∷ []) ≡ w ∷ [] → tells_homed w.news ≡ true → ⊥
last_silent k l zero zero w e t = silent_word l true w (one_item (bare_word l true) w e) t
last_silent k l zero (suc j) w e t = no_words j w e
last_silent k l (suc n) zero w e t = silent_word k false w (one_item (still_word k) w e) t
last_silent k l (suc n) (suc j) w e t = last_silent (k + 1) l n j w e t

-- the words that the reactor put, and behind them those that the planner heard
words_split : (m : Machine) (n : ℕ) (ts : List MotionTurn) (p : Plans m n ts) (put more left : List WordMsg) → put ++ more ≡ gather (λ t. t.words) ts ++ left
    → put ++ more ≡ words_in (p.made ++ p.last) ++ (gather (λ t. t.words) (heard_all m n ts p).later ++ left)
words_split m n ts p put more left words = search (rules, heard_all, gather, gather_words, append_assoc)

-- turns of the reactor that took the planner's notes, where none of the words that the planner heard behind theirs tells of an answer
pub planned_on : (m : Machine) (switches : List Switch) (n : ℕ) (ts : List MotionTurn) (p : Plans m n ts) (rs : List ReactorTurn) (more left : List WordMsg) → AreReactorTurns m switches [] rs
    → gather (λ t. t.word ∷ []) rs ++ more ≡ gather (λ t. t.words) ts ++ left → CameNotes p.seen.begun (came_from [] rs)
    → ((place : ℕ) (w : WordMsg) → length rs ≤ place → item place (words_in (p.made ++ p.last)) ≡ w ∷ [] → tells_homed w.news ≡ true → ⊥) → length rs ≤ length p.made + 1 → IsPlannedBy m switches n ts p (came_from [] rs)
planned_on m switches n ts p rs more left turns words notes others long =
    let mine = words_in (p.made ++ p.last) in
    let behind = gather (λ (t : MotionTurn). t.words) (heard_all m n ts p).later ++ left in
    let size = came_long [] rs in
    let many = said_long rs in
    record {
      goes_on = all_on m switches [] rs turns tt;
      notes = notes;
      words = words_from m switches mine 0 [] rs refl turns (λ j w low is.
          let same : 0 + j ≡ j = omega arith in
          let own : item j mine ≡ w ∷ [] = ap (λ i. item i mine) (sym same) ∙ is in
          let all : item j (Said rs ++ more) ≡ w ∷ [] = ap (item j) (words_split m n ts p (Said rs) more left words) ∙ item_front j mine behind w own in
          sym (item_left j (Said rs) more (omega (arith, low, many))) ∙ all) tt;
      others = λ j w far. others j w (omega (arith, far, size));
      long = omega (arith, long, size);
    }

-- words behind those of the last turns tell of no answer
pub others_silent : (m : Machine) (n ahead : ℕ) (ts : List MotionTurn) (p : Plans m n ts) (rs : List ReactorTurn) (left : List WordMsg) → gather (λ t. t.word ∷ []) rs ++ last_words (length rs) ahead ≡ gather (λ t. t.words) ts ++ left
    → (place : ℕ) (w : WordMsg) → length rs ≤ place → item place (words_in (p.made ++ p.last)) ≡ w ∷ [] → tells_homed w.news ≡ true → ⊥
others_silent m n ahead ts p rs left words j w far is tells =
    let put = Said rs in
    let last = last_words (length rs) ahead in
    let many = said_long rs in
    let all : item j (put ++ last) ≡ w ∷ [] = ap (item j) (words_split m n ts p put last left words) ∙ item_front j (words_in (p.made ++ p.last)) (gather (λ (t : MotionTurn). t.words) (heard_all m n ts p).later ++ left) w is in
    let later = sym (item_right j put last (omega (arith, far, many))) ∙ all in
    last_silent (length rs) (length rs + ahead) ahead (j - length put) w later tells

pub planned_by : (m : Machine) (switches : List Switch) (n ahead : ℕ) (ts : List MotionTurn) (p : Plans m n ts) (first : ReactorTurn) (rest : List ReactorTurn) (left : List WordMsg) → AreReactorTurns m switches [] (first ∷ rest)
    → gather (λ t. t.word ∷ []) (first ∷ rest) ++ last_words (length (first ∷ rest)) ahead ≡ gather (λ t. t.words) ts ++ left → TookNotes (map (λ t. t.note) p.made) (first ∷ rest) → length (first ∷ rest) ≤ length p.made + 1
    → IsPlannedBy m switches n ts p (came_from [] (first ∷ rest))
planned_by m switches n ahead ts p first rest left turns words notes long =
    let rs = first ∷ rest in
    planned_on m switches n ts p rs (last_words (length rs) ahead) left turns words (all_notes m p.seen.text p.seen.begun p.made first rest p.put notes) (others_silent m n ahead ts p rs left words) long
