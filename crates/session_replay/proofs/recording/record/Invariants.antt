use Rattle.session_replay.proofs.recording.record.Given as goal

abbrev pub ghosts-record_by : goal.ghosts-record_by
ghosts-record_by g a = record { config = a.begin.now; calls = g.H.Host.calls a.host.now }
