use Rattle.meeting.proofs.lists.+apart.Given as goal

abbrev pub decreases-apart : goal.decreases-apart
decreases-apart l = 0
