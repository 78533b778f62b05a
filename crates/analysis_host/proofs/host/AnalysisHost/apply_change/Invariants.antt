use Rattle.analysis_host.proofs.host.AnalysisHost.apply_change.Given as goal

abbrev pub ghosts-apply_uncounted : goal.ghosts-apply_uncounted
ghosts-apply_uncounted a = record { name = a.blank.name; parts = a.blank.parts }
