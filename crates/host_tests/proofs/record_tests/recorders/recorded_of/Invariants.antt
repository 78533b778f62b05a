use Rattle.host_tests.proofs.record_tests.recorders.recorded_of.Given as goal

abbrev pub ghosts-recorded_by : goal.ghosts-recorded_by
ghosts-recorded_by g a = record { config = a.begin.now; calls = g.H.Host.calls a.host.now }
