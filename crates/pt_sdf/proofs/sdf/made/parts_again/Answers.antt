use Rattle.pt_sdf.proofs.sdf.made.parts_again.Goals as goal

pub returns-clause-first : goal.returns-clause-first
returns-clause-first c = c.in_ok-first.ensures

pub returns-clause-lent : goal.returns-clause-lent
returns-clause-lent c = c.in_ok-lent.ensures

pub returns-clause-tables : goal.returns-clause-tables
returns-clause-tables c = c.in_ok-made.ensures.tables

pub returns-clause-channels : goal.returns-clause-channels
returns-clause-channels c = c.in_ok-made.ensures.channels

pub returns-clause-counted : goal.returns-clause-counted
returns-clause-counted c = c.in_ok-made.ensures.counted

pub returns-clause-rooms : goal.returns-clause-rooms
returns-clause-rooms c = c.in_ok-made.ensures.rooms
