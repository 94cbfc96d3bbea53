use Rattle.serve_by_threads.proofs.serving.serve.Given as goal

-- the ledgers are those of the blanks
abbrev pub ghosts-serve_with-L-Ledger : goal.ghosts-serve_with-L-Ledger
ghosts-serve_with-L-Ledger g a = record { name = a.blanks.bytes.name; parts = a.blanks.bytes.parts }

abbrev pub ghosts-serve_with-J-Ledger : goal.ghosts-serve_with-J-Ledger
ghosts-serve_with-J-Ledger g a = record { name = a.blanks.jobs.name; parts = a.blanks.jobs.parts }

abbrev pub ghosts-serve_with-K-Ledger : goal.ghosts-serve_with-K-Ledger
ghosts-serve_with-K-Ledger g a = record { name = a.blanks.results.name; parts = a.blanks.results.parts }
