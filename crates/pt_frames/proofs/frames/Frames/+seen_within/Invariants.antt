use Rattle.pt_frames.proofs.frames.Frames.+seen_within.Given as goal

abbrev pub decreases-seen_within : goal.decreases-seen_within
decreases-seen_within l = l.levels
