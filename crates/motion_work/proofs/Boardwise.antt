-- The sections of a board.
use Rattle.std.proofs.Common.{◌≡◌, ℕ, ◌+◌, ◌<◌, List, [], ◌∷◌, All, length, map, sym, subst, ◌∙◌, arith}
use Rattle.std.proofs.lemmas.List.Folds.{flat_map-map}
use Rattle.std.proofs.lemmas.List.Elements.{All-cons, All-nil}
use Rattle.std.specs.List.{flat_map}
use Rattle.std.specs.Prelude.{slice_index_or}
use Rattle.plan_types.specs.declared.machine.Machine.{Machine}
use Rattle.plan_types.specs.Lines.{Clocks}
use Rattle.plan_types.specs.Machines.{board_at}
use Rattle.plan_types.specs.Sections.{clocks_at}
use Rattle.section_units.specs.Sections.{BoardSection, IsSection}
use Rattle.step_feed.specs.Pacing.{Release, batch_at}
use Rattle.motion_work.specs.Boards.{AreSectionsApart, parts_on}
use Rattle.motion_work.specs.Feeds.{units_at}
use Rattle.section_units.specs.Merged.{section_of}
use Rattle.section_units.specs.Plans.{plans_on}
use Rattle.motion_work.specs.Seen.{AreMoves, AreStarted, IsMoved, IsPlanned, Started, part_on}
use Rattle.motion_work.proofs.Turning.{planned_late}

pub moved_is : (m : Machine) (clocks : List Clocks) (s : Started) (b : ℕ) → IsMoved m clocks s → b < length m.boards → IsSection (clocks_at clocks b) (board_at m b).freq (board_at m b).slots (part_on m clocks s b)
moved_is m clocks s b h lt =
    subst (λ end. IsSection (clocks_at clocks b) (board_at m b).freq (board_at m b).slots (section_of s.start end (plans_on m clocks s.section.moves s.start b) (slice_index_or s.boards b []))) (sym h.end) (h.boards.each b lt)

pub sections_are : (m : Machine) (clocks : List Clocks) (ready : ℕ) (begun : List Started) (b : ℕ) → AreStarted m clocks ready begun → AreMoves begun → b < length m.boards → All (IsSection (clocks_at clocks b) (board_at m b).freq (board_at m b).slots) (parts_on m clocks begun b)
sections_are m clocks ready [] b h moves lt = All-nil (IsSection (clocks_at clocks b) (board_at m b).freq (board_at m b).slots)
sections_are m clocks ready (s ∷ begun) b h moves lt =
    All-cons (IsSection (clocks_at clocks b) (board_at m b).freq (board_at m b).slots) (part_on m clocks s b) (parts_on m clocks begun b) (moved_is m clocks s b (subst (λ kind. IsPlanned kind m clocks s) moves.0 h.0.planned) lt)
    (sections_are m clocks (s.end + 260) begun b h.1 moves.1 lt)

pub apart : (m : Machine) (clocks : List Clocks) (ready : ℕ) (begun : List Started) (b : ℕ) → AreStarted m clocks ready begun → AreSectionsApart ready (parts_on m clocks begun b)
apart m clocks ready [] b h = tt
apart m clocks ready (s ∷ begun) b h =
    let start = h.0.start in
    (omega (arith, start), planned_late s.section.kind m clocks s h.0.planned, apart m clocks (s.end + 260) begun b h.1)

planned : (m : Machine) (clocks : List Clocks) (ready : ℕ) (begun : List Started) → AreStarted m clocks ready begun → All (λ s. IsPlanned s.section.kind m clocks s) begun
planned m clocks ready [] h = All-nil (λ (s : Started). IsPlanned s.section.kind m clocks s)
planned m clocks ready (s ∷ begun) h = All-cons (λ (x : Started). IsPlanned x.section.kind m clocks x) s begun h.0.planned (planned m clocks (s.end + 260) begun h.1)

pub board_units : (m : Machine) (clocks : List Clocks) (begun : List Started) (b k : ℕ) → units_at b k (map (λ s. s.boards) begun) ≡ flat_map (λ s. batch_at k s.releases) (parts_on m clocks begun b)
board_units m clocks begun b k =
    flat_map-map (λ (x : List (List Release)). batch_at k (slice_index_or x b [])) (λ (s : Started). s.boards) begun ∙ sym (flat_map-map (λ (x : BoardSection). batch_at k x.releases) (λ s. part_on m clocks s b) begun)
