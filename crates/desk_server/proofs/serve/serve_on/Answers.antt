use Rattle.desk_server.proofs.serve.serve_on.Goals as goal

pub returns : goal.returns
returns g c =
    let served = c.serve_logged.ensures in
    record { all = served.all; serves = served.serves; besides = served.besides.0 }
