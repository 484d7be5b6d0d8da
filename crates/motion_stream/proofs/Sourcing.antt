-- The text as it is read.
use Rattle.std.proofs.Common.{◌≡◌, ℕ, Bool, true, false, List, [], ◌∷◌, ◌++◌, All, Option, Some, None, refl, ap, sym, subst, ◌∙◌, append_assoc, append-nil}
use Rattle.std.specs.Prelude.{is_some}
use Rattle.plan_types.specs.declared.machine.Machine.{Machine}
use Rattle.plan_types.specs.declared.plan.ReadEnd.{ReadEnd}
use Rattle.gcode_program.specs.declared.items.Item.{Item}
use Rattle.std.proofs.lemmas.List.Elements.{All-tail}
use Rattle.gcode_program.specs.Items.{IsGood}
use Rattle.gcode_program.specs.Reader.{IsAll}
use Rattle.gcode_program.specs.Readers.{IsReaderOf, stop_of}
use Rattle.motion_stream.specs.declared.source.Source.{Source}
use Rattle.motion_stream.specs.Texts.{IsSourceOf, MayBecome, ended_after, text_after}
use Rattle.plan_types.proofs.Facts.{true_false}

no_end : {A : Type 0} (e : ReadEnd) → None ≡ Some e → A
no_end e p = absurd cc

-- nothing is read yet
pub new_is : (m : Machine) (s : Source) → s.end ≡ None → s.ended ≡ false → s.items.items ≡ [] → stop_of s.reader ≡ None → IsReaderOf s.reader m [] [] → IsSourceOf m s [] false []
new_is m s none open_is empty goes reader = record {
  ended_is = open_is;
  goes = λ e. (refl, subst (λ (is : List Item). IsReaderOf s.reader m [] is) (sym empty) reader);
  reads = λ e. goes;
  first = λ e fresh. empty;
  over = λ e is. no_end e (sym none ∙ is);
}

-- more was read
pub read_is : (m : Machine) (old new : Source) (text bytes : List ℕ) (told : List Item) → old.end ≡ None → new.ended ≡ false → new.opened ≡ true → new.end ≡ stop_of new.reader
    → (IsReaderOf old.reader m text (told ++ old.items.items) → IsReaderOf new.reader m (text ++ bytes) (told ++ new.items.items)) → IsSourceOf m old text false told → IsSourceOf m new (text ++ bytes) false told
read_is m old new text bytes told none open_is opened end reads h =
    let reader = reads (h.goes none).1 in
    record {
      ended_is = open_is;
      goes = λ e. (refl, reader);
      reads = λ e. sym end ∙ e;
      first = λ e fresh. absurd (true_false (sym opened ∙ fresh));
      over = λ e is whole may. subst (λ (t : List ℕ). IsAll m t e (told ++ new.items.items)) (sym may.1) ((reader.read may.0).over e (sym end ∙ is));
    }

-- a text whose reading is over goes on, or ends
pub more_is : (m : Machine) (old new : Source) (text bytes : List ℕ) (told : List Item) (e : ReadEnd) → old.end ≡ Some e → new.end ≡ old.end → new.ended ≡ false → new.items.items ≡ old.items.items → IsSourceOf m old text false told → IsSourceOf m new (text ++ bytes) false told
more_is m old new text bytes told e some same open_is items h = record {
  ended_is = open_is;
  goes = λ none. no_end e (sym none ∙ same ∙ some);
  reads = λ none. no_end e (sym none ∙ same ∙ some);
  first = λ none. no_end e (sym none ∙ same ∙ some);
  over = λ x is whole may. subst (λ (i : List Item). IsAll m whole x (told ++ i)) (sym items) (h.over x (sym same ∙ is) whole (bytes ++ may.0, may.1 ∙ append_assoc text bytes may.0));
}

pub ended_is : (m : Machine) (old new : Source) (text : List ℕ) (told : List Item) (e : ReadEnd) → old.end ≡ Some e → new.end ≡ old.end → new.ended ≡ true → new.items.items ≡ old.items.items → IsSourceOf m old text false told → IsSourceOf m new text true told
ended_is m old new text told e some same over items h = record {
  ended_is = over;
  goes = λ none. no_end e (sym none ∙ same ∙ some);
  reads = λ none. no_end e (sym none ∙ same ∙ some);
  first = λ none. no_end e (sym none ∙ same ∙ some);
  over = λ x is whole may. subst (λ (i : List Item). IsAll m whole x (told ++ i)) (sym items) (h.over x (sym same ∙ is) whole ([], may ∙ sym (append-nil text)));
}

-- it ends, and so does its reading
pub finished_is : (m : Machine) (old new : Source) (text : List ℕ) (told : List Item) (e : ReadEnd) → old.end ≡ None → new.end ≡ Some e → new.ended ≡ true
    → (IsReaderOf old.reader m text (told ++ old.items.items) → IsAll m text e (told ++ new.items.items)) → IsSourceOf m old text false told → IsSourceOf m new text true told
finished_is m old new text told e none some over ends h =
    let all = ends (h.goes none).1 in
    record {
      ended_is = over;
      goes = λ n. no_end e (sym n ∙ some);
      reads = λ n. no_end e (sym n ∙ some);
      first = λ n. no_end e (sym n ∙ some);
      over = λ x is whole may.
          let same : e ≡ x = some_same e x (sym some ∙ is) in
          subst (λ (t : List ℕ). IsAll m t x (told ++ new.items.items)) (sym may) (subst (λ (y : ReadEnd). IsAll m text y (told ++ new.items.items)) same all);
    }
  where
    some_same : (x y : ReadEnd) → Some x ≡ Some y → x ≡ y
    some_same x y p = cc

-- a piece
pub kept_piece : (m : Machine) (s : Source) (text bytes : List ℕ) (ended end : Bool) (told : List Item) → s.ended ≡ true → IsSourceOf m s text ended told → IsSourceOf m s (text_after text ended bytes) (ended_after ended end) told
kept_piece m s text bytes true end told is h = h
kept_piece m s text bytes false end told is h = absurd (true_false (sym is ∙ h.ended_is))

pub took_piece : (m : Machine) (old new : Source) (text bytes : List ℕ) (ended end : Bool) (told : List Item) → old.ended ≡ false
    → (IsSourceOf m old text false told → IsSourceOf m new (text ++ bytes) end told) → IsSourceOf m old text ended told → IsSourceOf m new (text_after text ended bytes) (ended_after ended end) told
took_piece m old new text bytes true end told is go h = absurd (true_false (sym h.ended_is ∙ is))
took_piece m old new text bytes false end told is go h = go h

-- the same, of things that are read apart from those that wait
pub read_by : (m : Machine) (old new : Source) (text bytes : List ℕ) (told empty more : List Item) → old.end ≡ None → new.ended ≡ false → new.opened ≡ true → new.end ≡ stop_of new.reader → empty ≡ [] → new.items.items ≡ old.items.items ++ more
    → ((t : List ℕ) (u : List Item) → IsReaderOf old.reader m t (u ++ empty) → IsReaderOf new.reader m (t ++ bytes) (u ++ more)) → IsSourceOf m old text false told → IsSourceOf m new (text ++ bytes) false told
read_by m old new text bytes told empty more none open_is opened end nil are reads h =
    let apart = told ++ old.items.items in
    let same : apart ++ more ≡ told ++ new.items.items = append_assoc told old.items.items more ∙ ap (λ is. told ++ is) (sym are) in
    let was : IsReaderOf old.reader m text apart → IsReaderOf old.reader m text (apart ++ empty) = subst (λ (is : List Item). IsReaderOf old.reader m text is) (sym (ap (λ is. apart ++ is) nil ∙ append-nil apart)) in
    read_is m old new text bytes told none open_is opened end (λ r. subst (λ (is : List Item). IsReaderOf new.reader m (text ++ bytes) is) same (reads text apart (was r))) h

pub finished_by : (m : Machine) (old new : Source) (text : List ℕ) (told empty more : List Item) (e : ReadEnd) → old.end ≡ None → new.end ≡ Some e → new.ended ≡ true → empty ≡ [] → new.items.items ≡ old.items.items ++ more
    → ((t : List ℕ) (u : List Item) → IsReaderOf old.reader m t (u ++ empty) → IsAll m t e (u ++ more)) → IsSourceOf m old text false told → IsSourceOf m new text true told
finished_by m old new text told empty more e none some over nil are ends h =
    let apart = told ++ old.items.items in
    let same : apart ++ more ≡ told ++ new.items.items = append_assoc told old.items.items more ∙ ap (λ is. told ++ is) (sym are) in
    let was : IsReaderOf old.reader m text apart → IsReaderOf old.reader m text (apart ++ empty) = subst (λ (is : List Item). IsReaderOf old.reader m text is) (sym (ap (λ is. apart ++ is) nil ∙ append-nil apart)) in
    finished_is m old new text told e none some over (λ r. subst (λ (is : List Item). IsAll m text e is) same (ends text apart (was r))) h

-- where the reading is over
pub more_else : (m : Machine) (old new : Source) (text bytes : List ℕ) (told : List Item) → true ≡ is_some old.end → new.end ≡ old.end → new.ended ≡ false → new.items.items ≡ old.items.items → IsSourceOf m old text false told → IsSourceOf m new (text ++ bytes) false told
more_else m old new text bytes told some same open_is are h = by old.end refl some where
  by : (o : Option ReadEnd) → old.end ≡ o → true ≡ is_some o → IsSourceOf m new (text ++ bytes) false told
  by None e n = absurd (true_false n)
  by (Some x) e n = more_is m old new text bytes told x e same open_is are h

pub ended_else : (m : Machine) (old new : Source) (text : List ℕ) (told : List Item) → true ≡ is_some old.end → new.end ≡ old.end → new.ended ≡ true → new.items.items ≡ old.items.items → IsSourceOf m old text false told → IsSourceOf m new text true told
ended_else m old new text told some same over are h = by old.end refl some where
  by : (o : Option ReadEnd) → old.end ≡ o → true ≡ is_some o → IsSourceOf m new text true told
  by None e n = absurd (true_false n)
  by (Some x) e n = ended_is m old new text told x e same over are h

-- what waits can be planned
all_behind : {X : Type 0} (P : X → Type 0) (xs ys : List X) → All P (xs ++ ys) → All P ys
all_behind P [] ys h = h
all_behind P (x ∷ xs) ys h = all_behind P xs ys (All-tail P x (xs ++ ys) h)

itself : (ended : Bool) (text : List ℕ) → MayBecome ended text text
itself true text = refl
itself false text = ([], sym (append-nil text))

pub waiting_good : (m : Machine) (s : Source) (text : List ℕ) (ended : Bool) (told : List Item) → IsSourceOf m s text ended told → All IsGood s.items.items
waiting_good m s text ended told h = all_behind IsGood told s.items.items (by_end s.end refl) where
  by_stop : (r : Option ReadEnd) → s.reader.reading.stop ≡ r → IsReaderOf s.reader m text (told ++ s.items.items) → All IsGood (told ++ s.items.items)
  by_stop None e reader = ((reader.read []).goes e).good
  by_stop (Some x) e reader = ((reader.read []).over x e).good

  by_end : (e : Option ReadEnd) → s.end ≡ e → All IsGood (told ++ s.items.items)
  by_end None e = by_stop s.reader.reading.stop refl (h.goes e).1
  by_end (Some x) e = (h.over x e text (itself ended text)).good
