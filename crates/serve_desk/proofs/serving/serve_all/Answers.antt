use Rattle.serve_desk.proofs.serving.serve_all.Goals as goal

pub returns-in-WithoutLooks-clause-served : goal.returns-in-WithoutLooks-clause-served
returns-in-WithoutLooks-clause-served g c = rw (c.in-WithoutLooks.is) c.serve_lines.ensures.served

pub returns-in-WithLooks-clause-served : goal.returns-in-WithLooks-clause-served
returns-in-WithLooks-clause-served g c = rw (c.in-WithLooks.is) c.watch_book.ensures.served
