use Rattle.link_work.proofs.pins.first_pins.Goals as goal

pub new-requires : goal.new-requires
new-requires c = c.in_ok-levels.ensures.stand c.requires.rise
