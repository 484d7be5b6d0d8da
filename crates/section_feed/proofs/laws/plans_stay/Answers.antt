use Rattle.plan_types.specs.Sections.{clocks_at}
use Rattle.section_feed.proofs.Lasts.{kept-lasting}
use Rattle.section_feed.proofs.Staying.{boards-stay, end-stays, last-stays, sent-stays}
use Rattle.section_feed.proofs.Taken.{end-late, steps-before}
use Rattle.section_feed.proofs.laws.plans_stay.Goals as goal

pub returns : goal.returns
returns c = record { last = last-stays; end = end-stays; boards = boards-stay; sent = sent-stays; before = λ m clocks moves start b turn lasting over. steps-before m clocks moves start b turn (kept-lasting (clocks_at clocks b) lasting) over; late = end-late }
